use Rattle.gq_rules_store.proofs.ClockFits.{calendar_law}
use Rattle.gq_rules_store.proofs.calendars_stay_in_range.Goals as goal

pub returns : goal.returns
returns c = calendar_law
