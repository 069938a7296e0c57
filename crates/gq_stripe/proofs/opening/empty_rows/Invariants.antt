use Rattle.std.proofs.Common.{◌≡◌, [], length}
use Rattle.std.specs.Prelude.{replicate}
use Rattle.gq_stripe.proofs.opening.empty_rows.Given as goal

abbrev pub invariant-loop-stripe : goal.invariant-loop-stripe
invariant-loop-stripe l = l.rows.items ≡ replicate l._stripe []
