use Rattle.gq_plan_expr.specs.Names.{known_of}
use Rattle.gq_plan_stmt.proofs.values.value.Goals as goal

pub returns : goal.returns
unfolding known_of
returns c = c.plan_expr.ensures
