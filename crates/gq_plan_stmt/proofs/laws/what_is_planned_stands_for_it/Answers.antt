use Rattle.gq_plan_stmt.proofs.StepLaws.{steps_law}
use Rattle.gq_plan_stmt.proofs.laws.what_is_planned_stands_for_it.Goals as goal

pub returns : goal.returns
returns c = steps_law
