use Rattle.gq_rules_calendar.specs.Gregorian.{gregorian}
use Rattle.gq_exec_contribute.proofs.AskedLemmas.{none_held, one_held}
use Rattle.gq_exec_contribute.proofs.asked.truth_asked.Goals as goal

pub returns-in-empty : goal.returns-in-empty
returns-in-empty c = none_held gregorian c.args.over.now c.args.leaves.now c.args.accums.now c.args.c.now c.args.slot c.args.vertex c.args.parts.now c.held_truth.result c.in-empty.len_below c.held_truth.ensures

pub returns-in-len1 : goal.returns-in-len1
returns-in-len1 c = one_held gregorian c.args.over.now c.args.leaves.now c.args.accums.now c.args.c.now c.args.slot c.args.vertex c.args.parts.now c.part-item.result c.held_key.result c.in-len1.len_at_least c.in-len1.len_below c.part-item.is c.held_key.ensures
