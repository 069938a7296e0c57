use Rattle.gq_plan_laws.proofs.PlannedQueryLaws.{plan_law}
use Rattle.gq_plan_laws.proofs.planned.what_is_planned_is_the_query.Goals as goal

pub returns : goal.returns
returns c = plan_law
