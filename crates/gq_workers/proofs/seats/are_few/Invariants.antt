use Rattle.std.proofs.Common.{◌≡◌, ◌^◌, ◌≤◌, take}
use Rattle.gq_stripe.specs.Seats.{contributions}
use Rattle.gq_workers.proofs.seats.are_few.Given as goal

abbrev pub invariant-loop-stripe : goal.invariant-loop-stripe
invariant-loop-stripe l = (l.count ≡ contributions (take l.stripe l.batches)) × (l.count ≤ 2 ^ 35)
