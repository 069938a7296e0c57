-- Feeding: the effect of a batch on a stripe, for any layout and any earlier inputs.
use Rattle.std.specs.Prelude.{◌≡◌, ℕ, ◌+◌, ◌^◌, ◌<◌, Bool, true, false, List, [], ◌∷◌, ◌++◌, length, All}
use Rattle.gq_value.specs.declared.kind.Kind.{Kind}
use Rattle.gq_nest.specs.declared.content.Content.{Content}
use Rattle.gq_stripe.specs.declared.view.Put.{Put}
use Rattle.gq_stripe.specs.declared.stripe.Stripe.{Stripe}
use Rattle.gq_stripe.specs.Contents.{Batch, FitsInput, HoldsAll, inputs_of, all_scalar}
use Rattle.gq_stripe.specs.Laid.{IsLaid}

-- contents of stripe j after some inputs, which can be fed the batch: inputs and batch fit, and there is room for all
-- of them
pub record IsReady (kinds : List Kind) (stripes j : ℕ) (inputs batch : Batch) (contents : List Content) : Type 0 where
  pub holds : HoldsAll kinds stripes j inputs contents
  pub fit : All (FitsInput kinds stripes j) inputs
  pub comes : All (FitsInput kinds stripes j) batch
  pub room : length inputs + length batch < 2 ^ 62

abbrev pub CanFeed : ℕ → Batch → List Content → Type 0
CanFeed stripes batch contents = (kinds : List Kind) × (j : ℕ) × (inputs : Batch) × IsReady kinds stripes j inputs batch contents

-- the same for kinds that need no memory
abbrev pub CanFeedScalars : ℕ → Batch → List Content → Type 0
CanFeedScalars stripes batch contents = (kinds : List Kind) × (j : ℕ) × (inputs : Batch) × IsReady kinds stripes j inputs batch contents × (all_scalar kinds ≡ true)

-- contents after the earlier inputs are now those after the batch too
abbrev pub IsFed : ℕ → Batch → List Content → List Content → Type 0
IsFed stripes batch old new = (kinds : List Kind) (j : ℕ) (inputs : Batch) → IsReady kinds stripes j inputs batch old → HoldsAll kinds stripes j (inputs ++ batch) new

-- stripe j after some puts, on which one more batch can be laid
pub record IsOpen (kinds : List Kind) (stripes j : ℕ) (puts : List Put) (batch : Batch) (stripe : Stripe) : Type 0 where
  pub laid : IsLaid kinds stripes j puts stripe
  pub fit : All (FitsInput kinds stripes j) (inputs_of puts)
  pub comes : All (FitsInput kinds stripes j) batch
  pub room : length (inputs_of puts) + length batch < 2 ^ 62
  pub few : length puts < 2 ^ 62

abbrev pub CanLay : ℕ → Batch → Stripe → Type 0
CanLay stripes batch stripe = (kinds : List Kind) × (j : ℕ) × (puts : List Put) × IsOpen kinds stripes j puts batch stripe

-- the batch is laid after the earlier puts; kinds that need no memory are never spoiled
pub record IsLaidOn (stripes : ℕ) (batch : Batch) (old new : Stripe) : Type 0 where
  pub next : (kinds : List Kind) (j : ℕ) (puts : List Put) → IsOpen kinds stripes j puts batch old → (p : Put) → p.batch ≡ batch → p.spoiled ≡ new.spoiled → IsLaid kinds stripes j (puts ++ p ∷ []) new
  pub scalars : (kinds : List Kind) (j : ℕ) (puts : List Put) → IsOpen kinds stripes j puts batch old → all_scalar kinds ≡ true → old.spoiled ≡ false → new.spoiled ≡ false
