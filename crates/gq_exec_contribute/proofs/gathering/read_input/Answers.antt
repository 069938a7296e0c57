use Rattle.std.proofs.Common.{rules}
use Rattle.gq_rules_calendar.specs.Gregorian.{gregorian}
use Rattle.gq_exec_contribute.proofs.GatherLemmas.{input_is}
use Rattle.gq_exec_contribute.proofs.gathering.read_input.Goals as goal

pub returns-then-read_before : goal.returns-then-read_before
returns-then-read_before c = input_is gregorian c.args.over.now c.args.leaves.now c.args.c.now c.args.slot c.args.vertex c.in-Some-target_in.target c.args.change.now c.in-Some.feed.now c.in-Some-get.cells.now c.read_before.new.input c.requires c.in-Some.ensures (search rules) c.in-Some-target_in.ensures (c.read_before.ensures c.if-read_before.true)
