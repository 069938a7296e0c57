use Rattle.gq_rules_meaning.proofs.LookLaws.{look_law_by_name}
use Rattle.gq_rules_meaning.proofs.a_fitting_state_is_seen_as_typed.Goals as goal

pub returns : goal.returns
returns c = look_law_by_name
