use Rattle.gq_plan_expr.specs.Names.{known_of, sees_of}
use Rattle.gq_plan_stmt.proofs.blocks.within.Goals as goal

pub returns : goal.returns
unfolding known_of sees_of
returns c = c.plan_block.ensures
