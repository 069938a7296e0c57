use Rattle.gq_rules_calendar.specs.Gregorian.{gregorian}
use Rattle.std.proofs.Common.{rules}
use Rattle.gq_eval_builtins.proofs.ListSteps.{two_list}
use Rattle.gq_exec_contribute.proofs.AskedLemmas.{got_size, none_asked, one_asked}
use Rattle.gq_exec_contribute.proofs.asked.int_asked.Goals as goal

pub returns-in-empty : goal.returns-in-empty
returns-in-empty c = none_asked gregorian c.args.over.now c.args.leaves.now c.args.accums.now c.args.c.now c.args.slot c.args.vertex c.args.parts.now c.held_int.result c.in-empty.len_below c.held_int.ensures

pub returns-in-len1 : goal.returns-in-len1
returns-in-len1 c = one_asked gregorian c.args.over.now c.args.leaves.now c.args.accums.now c.args.c.now c.args.slot c.args.vertex c.args.parts.now c.part-item.result c.one_asked.result c.in-len1.len_at_least c.in-len1.len_below c.part-item.is c.one_asked.ensures

pub returns-then-is_size : goal.returns-then-is_size
returns-then-is_size c =
    got_size gregorian c.args.over.now c.args.leaves.now c.args.accums.now c.args.c.now c.args.slot c.args.vertex c.args.parts.now c.first-item.result c.next-item.result c.in-Some.content.now c.size_in.result
    (two_list c.args.parts.now c.first-item.result c.next-item.result c.in-len2.len_at_least c.in-len2.len_below c.first-item.is c.next-item.is) c.in-Some.ensures (c.is_size.ensures (search rules)) c.size_in.ensures
