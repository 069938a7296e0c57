use Rattle.gq_plan.proofs.PrintLaws.{print_law}
use Rattle.gq_plan.proofs.laws.a_plan_prints_what_its_query_prints.Goals as goal

pub returns : goal.returns
returns c = print_law
