-- Ending: the contents that are taken out of the slots of a closed table.
use Rattle.std.specs.Prelude.{◌≡◌, ℕ, ◌<◌, false, List, [], ◌∷◌, ◌++◌, length, Some}
use mathlib.Core.Option.{some}
use lib.ListN.{get_elem?}
use Rattle.gq_nest.specs.declared.content.Content.{Content}
use Rattle.gq_stripe.specs.declared.stripe.Stripe.{Stripe}
use Rattle.gq_stripe.specs.Rule.{Slot}

-- a stripe in slot j that isn't spoiled, whose contents were taken
pub record IsTakenAt (slots : List Slot) (taken : List (List Content)) (j : ℕ) : Type 0 where
  pub stripe : Stripe
  pub is : get_elem? slots j ≡ some (Some stripe)
  pub fine : stripe.spoiled ≡ false
  pub contents : get_elem? taken j ≡ some stripe.contents

-- the contents of the first n slots, none of which is spoiled
pub record AreTaken (n : ℕ) (slots : List Slot) (taken : List (List Content)) : Type 0 where
  pub count : length taken ≡ n
  pub each : (j : ℕ) → j < n → IsTakenAt slots taken j

-- the contents of a slot that isn't spoiled were appended
abbrev pub IsTakenBehind : Slot → List (List Content) → List (List Content) → Type 0
IsTakenBehind slot old new = (stripe : Stripe) × (slot ≡ Some stripe) × (stripe.spoiled ≡ false) × (new ≡ old ++ stripe.contents ∷ [])
