use Rattle.gq_rules_safety.proofs.SafetyLaws.{goes_on_law}
use Rattle.gq_rules_safety.proofs.safety_goes_on.Goals as goal

pub returns : goal.returns
returns c = goes_on_law
