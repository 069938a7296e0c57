use Rattle.std.proofs.Common.{refl}
use Rattle.gq_rules_calendar.specs.Gregorian.{gregorian}
use Rattle.gq_exec_contribute.proofs.AskedLemmas.{begins_global, begins_name}
use Rattle.gq_exec_contribute.proofs.asked.leading_accumulator.Goals as goal

pub returns-in-Global : goal.returns-in-Global
returns-in-Global c = begins_global gregorian c.args.leaves.now c.args.c.now c.in-Global.slot c.args.first.now c.args.parts.now _ c.in-Global.is refl refl refl

pub returns-in-len1-up : goal.returns-in-len1-up
returns-in-len1-up c = begins_name gregorian c.args.leaves.now c.args.c.now c.args.first.now c.args.parts.now c.in-Name.place c.part-item.result c.attached.result c.in-Name.is c.in-len1-up.len_at_least c.part-item.is c.attached.ensures
