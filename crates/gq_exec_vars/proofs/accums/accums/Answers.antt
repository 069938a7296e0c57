use Rattle.std.proofs.Common.{length, arith}
use Rattle.gq_value.specs.AccumViews.{accum_of}
use Rattle.gq_rules_calendar.specs.Gregorian.{gregorian}
use Rattle.gq_exec_vars.specs.Begun.{world_with}
use Rattle.gq_exec_vars.proofs.NumberLemmas.{next_slot}
use Rattle.gq_exec_vars.proofs.OpenLemmas.{accums_begin, accums_more, accums_stop, accums_end}
use Rattle.gq_exec_vars.proofs.accums.accums.Goals as goal

pub loop-tree-init : goal.loop-tree-init
loop-tree-init c = record { goes = accums_begin (world_with gregorian c.args.graph c.args.plan.now c.args.tuples.now) (accum_of c.args.kind.now) c.args.trees.now c.args.live.now; ready = c.requires.ready; count = omega arith }

pub loop-tree-preserved : goal.loop-tree-preserved
loop-tree-preserved c = record {
  goes =
      accums_more (world_with gregorian c.args.graph c.args.plan.now c.args.tuples.now) (accum_of c.args.kind.now) c.args.trees.now c.loop-tree.tree-index c.tree-item.result c.args.live.now c.loop-tree.live c.accum.new.live
      (rw c.as_slice-tree-items.ensures at c.loop-tree-test.true) (rw c.as_slice-tree-items.ensures at c.tree-item.is) c.in_ok-accum.ensures.leads c.loop-tree.invariant.goes;
  ready = c.in_ok-accum.ensures.ready;
  count = let n = c.loop-tree.invariant.count in let m = c.in_ok-accum.ensures.count in omega (arith, n, m);
}

pub accum-requires-clause-next : goal.accum-requires-clause-next
accum-requires-clause-next c =
    next_slot (length c.args.live.now.frame.accums.slots.declared) (length c.loop-tree.live.frame.accums.slots.declared) c.loop-tree.tree-index c.args.trees.now c.tree-item.result c.requires.next c.loop-tree.invariant.count
    (rw c.as_slice-tree-items.ensures at c.loop-tree-test.true) (rw c.as_slice-tree-items.ensures at c.tree-item.is)

pub returns-in_err-accum-clause-leads : goal.returns-in_err-accum-clause-leads
returns-in_err-accum-clause-leads c =
    accums_stop (world_with gregorian c.args.graph c.args.plan.now c.args.tuples.now) (accum_of c.args.kind.now) c.args.trees.now c.loop-tree.tree-index c.tree-item.result c.args.live.now c.loop-tree.live c.accum.new.live c.in_err-accum.field-0.0 c.from_residual.result
    (rw c.as_slice-tree-items.ensures at c.loop-tree-test.true) (rw c.as_slice-tree-items.ensures at c.tree-item.is) c.from_residual.ensures.1 c.in_err-accum.ensures.leads c.loop-tree.invariant.goes

pub returns-clause-leads : goal.returns-clause-leads
returns-clause-leads c =
    accums_end (world_with gregorian c.args.graph c.args.plan.now c.args.tuples.now) (accum_of c.args.kind.now) c.args.trees.now c.loop-tree.tree-index c.args.live.now c.loop-tree.live
    (rw c.as_slice-tree-items.ensures at c.loop-tree-test.false) c.loop-tree.invariant.goes

pub returns-clause-count : goal.returns-clause-count
returns-clause-count c =
    let n = c.loop-tree.invariant.count in
    let a = rw c.as_slice-tree-items.ensures at c.loop-tree-test.false in
    let b = rw c.as_slice-tree-items.ensures at c.loop-tree.auto.tree-index-end in
    omega (arith, n, a, b)
