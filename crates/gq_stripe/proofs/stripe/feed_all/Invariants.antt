use Rattle.gq_stripe.proofs.StripeLemmas.{IsFedTo}
use Rattle.gq_stripe.proofs.stripe.feed_all.Given as goal

abbrev pub invariant-loop-target : goal.invariant-loop-target
invariant-loop-target l = IsFedTo l.stripes l.batch l.fn.contents l.target-index l.contents
