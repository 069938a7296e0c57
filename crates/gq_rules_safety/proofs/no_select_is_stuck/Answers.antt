use Rattle.gq_rules_safety.proofs.SelectLaws.{select_law_by_name}
use Rattle.gq_rules_safety.proofs.no_select_is_stuck.Goals as goal

pub returns : goal.returns
returns c = select_law_by_name
