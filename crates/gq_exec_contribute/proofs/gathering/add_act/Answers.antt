use Rattle.gq_rules_calendar.specs.Gregorian.{gregorian}
use Rattle.gq_exec_contribute.proofs.GatherLemmas.{attached_gathers}
use Rattle.gq_exec_contribute.proofs.gathering.add_act.Goals as goal

pub returns-in-Some : goal.returns-in-Some
returns-in-Some c = attached_gathers gregorian c.args.over.now c.args.leaves.now c.args.c.now c.in-Attached.place c.in-Attached.slot c.in-Some.vertex c.args.act.now c.in-Attached.change c.args.into.now c.add_change.new.into c.add_change.result c.in-Attached.is c.in-Some.ensures c.add_change.ensures
