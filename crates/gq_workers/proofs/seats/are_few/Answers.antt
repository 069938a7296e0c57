use Rattle.std.proofs.Common.{◌+◌, ◌≡◌, arith, length, take, get_or, sym, ap, ◌∙◌}
use Rattle.std.proofs.lemmas.List.Sums.{sum_by_more}
use Rattle.std.proofs.lemmas.Option.{get_or_from_slice_get, slice_get_within}
use Rattle.gq_stripe.specs.Contents.{Batch}
use Rattle.gq_stripe.specs.Seats.{contributions}
use Rattle.gq_workers.proofs.seats.are_few.Goals as goal

pub loop-stripe-preserved : goal.loop-stripe-preserved
loop-stripe-preserved c =
    let f = λ (batch : Batch). length batch in
    let i = c.loop-stripe.invariant.0 in let s = c.saturating_add-count.ensures in let w = c.in_ok-within.ensures.ok in let below = c.loop-stripe-test.true in let n = c.stripes-stripe-end.ensures.stripes in
    let m = sum_by_more f c.args.batches.now c.loop-stripe.stripe c.at.result.now (omega (arith, below, n)) in
    let g : length (get_or c.args.batches.now c.loop-stripe.stripe c.at.result.now) ≡ length c.at.result.now = ap f (get_or_from_slice_get c.args.batches.now c.loop-stripe.stripe c.at.result.now c.at.result.now c.at.ensures) in
    (omega (arith, i, s, w, m, g), w)
