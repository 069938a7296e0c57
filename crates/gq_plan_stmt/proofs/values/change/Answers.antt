use Rattle.gq_plan_expr.specs.Names.{known_of}
use Rattle.gq_plan_stmt.proofs.values.change.Goals as goal

pub returns : goal.returns
unfolding known_of
returns c = c.plan_change.ensures
