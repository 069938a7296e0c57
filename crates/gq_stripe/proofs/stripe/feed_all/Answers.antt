use Rattle.std.proofs.Common.{◌≡◌, ℕ, ◌/◌, ◌<◌, false, true, length, set, slice_get, Some, subst, sym, ap}
use Rattle.gq_stripe.proofs.StripeLemmas.{place_there, fed_more, plain_there}
use Rattle.gq_stripe.proofs.stripe.feed_all.Goals as goal

pub at_mut-requires : goal.at_mut-requires
at_mut-requires c = subst (λ (n : ℕ). c.loop-target-item.result.0 / n < length c.loop-target.contents) (sym c.from.ensures)
    (place_there _ _ _ _ _ c.loop-target-item.result c.requires.fits c.loop-target.invariant c.loop-target-test.true c.loop-target-item.is)

pub loop-target-preserved : goal.loop-target-preserved
loop-target-preserved c =
    fed_more _ _ _ _ _ _ c.loop-target-item.result c.at_mut.result.now c.feed.new.self c.loop-target.invariant c.loop-target-test.true c.loop-target-item.is
    (subst (λ (n : ℕ). slice_get c.loop-target.contents (c.loop-target-item.result.0 / n) ≡ Some c.at_mut.result.now) c.from.ensures c.at_mut.ensures.value) c.in_ok-feed.ensures.fed
    (ap (λ (n : ℕ). set c.loop-target.contents (c.loop-target-item.result.0 / n) c.feed.new.self) c.from.ensures)

pub returns-in_err-feed-clause-scalars : goal.returns-in_err-feed-clause-scalars
returns-in_err-feed-clause-scalars c can =
    let p = plain_there _ _ _ _ _ c.loop-target-item.result _ can c.loop-target.invariant c.loop-target-test.true c.loop-target-item.is
    (subst (λ (n : ℕ). slice_get c.loop-target.contents (c.loop-target-item.result.0 / n) ≡ Some c.at_mut.result.now) c.from.ensures c.at_mut.ensures.value) in
    let d : false ≡ true = c.in_err-feed.ensures.plain p.0 p.1 in cc
