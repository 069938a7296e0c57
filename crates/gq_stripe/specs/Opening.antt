-- Opening: stripes before anything is put.
use Rattle.std.specs.Prelude.{◌≡◌, ℕ, ◌+◌, ◌%◌, ◌/◌, ◌<◌, false, List, [], ◌∷◌, ◌++◌, length, map, take, slice_get, slice_set, Some}
use mathlib.Core.Option.{some}
use lib.ListN.{get_elem?}
use Rattle.gq_value.specs.declared.kind.Kind.{Kind}
use Rattle.gq_nest.specs.declared.content.Content.{Content}
use Rattle.gq_stripe.specs.declared.stripe.Stripe.{Stripe}
use Rattle.gq_stripe.specs.Contents.{HoldsAll}
use Rattle.gq_stripe.specs.Laid.{IsLaid}
use Rattle.gq_stripe.specs.Rule.{Slot}

-- a row of contents for each stripe, which holds each target before any input
pub record AreRows (kinds : List Kind) (stripes : ℕ) (rows : List (List Content)) : Type 0 where
  pub count : length rows ≡ stripes
  pub each : (j : ℕ) (row : List Content) → slice_get rows j ≡ Some row → HoldsAll kinds stripes j [] row

-- a stripe with these contents, on which nothing was laid
abbrev pub opened : List Content → Slot
opened contents = Some (record { contents = contents; laid = 0; spoiled = false })

-- a stripe for each slot, without puts
pub record AreOpen (kinds : List Kind) (stripes : ℕ) (slots : List Slot) : Type 0 where
  pub count : length slots ≡ stripes
  pub each : (j : ℕ) → j < stripes → (stripe : Stripe) × (get_elem? slots j ≡ some (Some stripe)) × IsLaid kinds stripes j [] stripe

-- one row has one more content
abbrev pub IsPushedAt : ℕ → Content → List (List Content) → List (List Content) → Type 0
IsPushedAt at content old new = (row : List Content) × (slice_get old at ≡ Some row) × (new ≡ slice_set old at (row ++ content ∷ []))
