use Rattle.gq_rules_meaning.proofs.InputLaws.{input_law_by_name}
use Rattle.gq_rules_meaning.proofs.no_input_is_stuck.Goals as goal

pub returns : goal.returns
returns c = input_law_by_name
