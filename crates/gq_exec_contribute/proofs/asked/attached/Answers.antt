use Rattle.std.proofs.Common.{refl}
use Rattle.gq_rules_calendar.specs.Gregorian.{gregorian}
use Rattle.gq_exec_contribute.proofs.AskedLemmas.{begins_attached}
use Rattle.gq_exec_contribute.proofs.asked.attached.Goals as goal

pub returns-in-Some : goal.returns-in-Some
returns-in-Some c = begins_attached gregorian c.args.leaves.now c.args.c.now c.args.place c.in-Attached.slot c.in-Some.vertex c.args.part.now c.args.others.now _ c.in-Attached.is c.in-Some.ensures refl refl refl
