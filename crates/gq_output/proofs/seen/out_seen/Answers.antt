use Rattle.std.proofs.Common.{ap}
use Rattle.gq_rules_calendar.specs.Gregorian.{gregorian}
use Rattle.gq_frame.specs.Slots.{slots_are}
use Rattle.gq_eval_operand.specs.Meant.{meant}
use Rattle.gq_eval_context.specs.Looks.{world_over}
use Rattle.gq_output.proofs.SeenLemmas.{set_meant, set_stops}
use Rattle.gq_output.proofs.seen.out_seen.Goals as goal

pub returns-in-Ok : goal.returns-in-Ok
returns-in-Ok c = set_meant (world_over gregorian c.args.over.now) (slots_are c.args.over.now.frame.accums) (meant c.args.seen) _ _ (ap meant c.in-Set.is) c.in-Ok.ensures

pub returns-in-Set : goal.returns-in-Set
returns-in-Set c = set_stops (world_over gregorian c.args.over.now) (slots_are c.args.over.now.frame.accums) (meant c.args.seen) _ c.in-Err.halt (ap meant c.in-Set.is) c.in-Err.ensures
