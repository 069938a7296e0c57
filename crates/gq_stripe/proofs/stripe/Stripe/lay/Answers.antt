use Rattle.std.proofs.Common.{arith}
use Rattle.gq_stripe.proofs.stripe.Stripe.lay.Goals as goal

pub overflow_add-self : goal.overflow_add-self
overflow_add-self c = let r = c.requires.fits.3 in let a = r.laid.counts in let b = r.few in omega (arith, a, b)
