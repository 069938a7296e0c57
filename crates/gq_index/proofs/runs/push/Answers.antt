use Rattle.gq_index.proofs.RunLemmas.{same_pushed, fresh_pushed}
use Rattle.gq_index.proofs.runs.push.Goals as goal

pub returns-then-continues : goal.returns-then-continues
returns-then-continues c = λ walks h.
    let kept = rw c.deref.ensures.value at (c.continues.ensures.yes c.if-continues.true) in
    rw c.in_ok-push.ensures.items (same_pushed c.args.segments.now.items c.args.reached.now.items walks c.args.walk h kept.0 kept.1 kept.2)

pub returns : goal.returns
returns c = λ walks h.
    rw (c.in_ok-push-2.ensures.items, c.in_ok-push-3.ensures.items, c.len.ensures, c.args.reached.now.ok.0)
    (fresh_pushed c.args.segments.now.items c.args.reached.now.items walks c.args.walk h (rw c.deref.ensures.value at (c.continues.ensures.no c.if-continues.false)))
