-- Laid: a stripe after puts.
use Rattle.std.specs.Prelude.{◌≡◌, ℕ, false, List, length}
use Rattle.gq_value.specs.declared.kind.Kind.{Kind}
use Rattle.gq_stripe.specs.declared.view.Put.{Put}
use Rattle.gq_stripe.specs.declared.stripe.Stripe.{Stripe}
use Rattle.gq_stripe.specs.Contents.{HoldsAll, inputs_of, any_spoiled}

-- stripe j after these puts in ticket order: it counts them, and has all their inputs or is spoiled
pub record IsLaid (kinds : List Kind) (stripes j : ℕ) (puts : List Put) (stripe : Stripe) : Type 0 where
  pub counts : stripe.laid ≡ length puts
  pub spoiled : stripe.spoiled ≡ any_spoiled puts
  pub holds : stripe.spoiled ≡ false → HoldsAll kinds stripes j (inputs_of puts) stripe.contents
