use Rattle.gq_plan_laws.proofs.FoundLaws.{found_law}
use Rattle.gq_plan_laws.proofs.found.what_is_found_is_what_names_are.Goals as goal

pub returns : goal.returns
returns c = found_law
