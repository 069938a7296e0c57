use Rattle.std.proofs.Common.{subst, sym}
use Rattle.gq_rules_calendar.specs.Gregorian.{gregorian}
use Rattle.gq_rules_typing.specs.Selecting as plain
use Rattle.gq_plan_ir.specs.BlockView.{view_feed}
use Rattle.gq_plan_ir.specs.Reference.{Reference}
use Rattle.gq_exec_contribute.specs.declared.cells.Taken.{Taken}
use Rattle.gq_exec_contribute.specs.declared.cells.Taken.TheVariants as taken
use Rattle.gq_exec_contribute.specs.Prepared.{IsFed, sees_in}
use Rattle.gq_exec_contribute.proofs.FedLemmas.{keys_view, one_moved}
use Rattle.gq_exec_contribute.proofs.reading.read.Goals as goal

pub returns-in-One : goal.returns-in-One
returns-in-One c = λ t. one_moved (sees_in gregorian c.args.over.now c.args.leaves.now c.args.accums.now c.args.c.now) c.args.feed.now c.in-One.expr c.args.takes c.read_one.new.input c.in-One.is (c.read_one.ensures t)

pub returns-in-Keyed-takes : goal.returns-in-Keyed-takes
returns-in-Keyed-takes c = λ t. subst (λ (t : Taken). IsFed (sees_in gregorian c.args.over.now c.args.leaves.now c.args.accums.now c.args.c.now) (view_feed c.args.feed.now) t c.read_keyed.new.input) (sym c.in-Keyed-takes.is)
    (subst (λ (f : plain.Input Reference). IsFed (sees_in gregorian c.args.over.now c.args.leaves.now c.args.accums.now c.args.c.now) f (taken.Keyed c.in-Keyed-takes.count c.in-Keyed-takes.part_count) c.read_keyed.new.input)
    (sym (keys_view c.args.feed.now c.in-Keyed.keys c.as_slice.result.now c.in-Keyed.parts c.as_slice-in-Keyed-takes.result.now c.in-Keyed.is c.as_slice.ensures c.as_slice-in-Keyed-takes.ensures)) (c.read_keyed.ensures t))
