use Rattle.gq_rules_meaning.proofs.ContributionLaws.{contribution_law_by_name}
use Rattle.gq_rules_meaning.proofs.no_contribution_is_stuck.Goals as goal

pub returns : goal.returns
returns c = contribution_law_by_name
