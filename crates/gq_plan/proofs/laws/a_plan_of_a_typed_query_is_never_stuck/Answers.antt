use Rattle.gq_plan.proofs.PrintLaws.{safe_law}
use Rattle.gq_plan.proofs.laws.a_plan_of_a_typed_query_is_never_stuck.Goals as goal

pub returns : goal.returns
returns c = safe_law
