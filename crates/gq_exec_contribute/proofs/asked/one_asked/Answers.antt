use Rattle.gq_rules_calendar.specs.Gregorian.{gregorian}
use Rattle.std.proofs.Common.{rules}
use Rattle.gq_exec_contribute.proofs.AskedLemmas.{got_asked, size_asked}
use Rattle.gq_exec_contribute.proofs.asked.one_asked.Goals as goal

pub returns-in-Some : goal.returns-in-Some
returns-in-Some c = size_asked gregorian c.args.over.now c.args.leaves.now c.args.accums.now c.args.c.now c.args.slot c.args.vertex c.args.part.now c.in-Some.content.now c.size_in.result c.in-Some.ensures (c.is_size.ensures (search rules)) c.size_in.ensures

pub returns-in-Some-got : goal.returns-in-Some-got
returns-in-Some-got c = got_asked gregorian c.args.over.now c.args.leaves.now c.args.accums.now c.args.c.now c.args.slot c.args.vertex c.args.part.now c.in-Some-got.content.now c.int_in.result c.in-Some-got.ensures c.int_in.ensures
