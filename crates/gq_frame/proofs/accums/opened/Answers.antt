use Rattle.std.proofs.Common.{◌≡◌, arith}
use Rattle.gq_frame.specs.Targets.{targets_of}
use Rattle.gq_frame.proofs.OpenSteps.{open_more, open_next, open_all}
use Rattle.gq_frame.proofs.accums.opened.Goals as goal

pub loop-preserved : goal.loop-preserved
loop-preserved c = open_more _ _ _ _ _ _ _ (rw c.as_slice-slot-items.ensures at c.loop-slot-test.true) (rw c.as_slice-slot-items.ensures at c.slot-item.is) c.in_ok-push.ensures.ok c.in_ok-fresh.ensures c.loop.invariant

pub loop-slot-preserved : goal.loop-slot-preserved
loop-slot-preserved c =
    let all : c.loop.counter ≡ targets_of c.args.slots.now.vertices c.slot-item.result = (let a = c.loop-test.false in let b = c.loop.auto.counter-end in let e = c.targets-end.ensures in omega (arith, a, b, e)) in
    open_next _ _ c.loop.counter _ _ (rw c.as_slice-slot-items.ensures at c.loop-slot-test.true) (rw c.as_slice-slot-items.ensures at c.slot-item.is) all c.loop.invariant

pub returns : goal.returns
returns c = open_all _ _ _ (rw c.as_slice-slot-items.ensures at c.loop-slot-test.false) (rw c.as_slice-slot-items.ensures at c.loop-slot.auto.slot-index-end) c.loop-slot.invariant
