-- Contents: what a stripe holds after inputs. A target's stripe is the remainder of its number, its place there the
-- quotient. Here a target's content is the one after the whole list of its inputs; the code feeds them one by one,
-- batch after batch.
use Rattle.std.specs.Prelude.{◌≡◌, ℕ, ◌%◌, ◌/◌, ◌^◌, ◌≤◌, Bool, true, List, length, flat_map, slice_get, Some, All}
use Rattle.std.specs.List.{list_all, list_any}
use Rattle.gq_value.specs.declared.kind.Kind.{Kind}
use Rattle.gq_value.specs.declared.kind.Input.{Input}
use Rattle.gq_value.specs.AccumViews.{accum_of, given}
use Rattle.gq_value.specs.Typed.{is_scalar, has_no_list, suits}
use Rattle.gq_accum_laws.specs.Holds.{Holds}
use Rattle.gq_accum_laws.specs.After as model
use Rattle.gq_nest.specs.declared.content.Content.{Content}
use Rattle.gq_nest.specs.Shows.{Shows}
use Rattle.gq_core.specs.Contents.{given_to}
use Rattle.gq_stripe.specs.declared.view.Put.{Put}

-- contributions: each a target and an input
abbrev pub Batch : Type 0
Batch = List (ℕ × Input)

-- a contribution to stripe j: its target is in the layout, has a kind without ListAccum at any level, and takes the
-- input
pub record FitsInput (kinds : List Kind) (stripes j : ℕ) (x : ℕ × Input) : Type 0 where
  pub here : x.0 % stripes ≡ j
  pub kind : Kind
  pub is : slice_get kinds x.0 ≡ Some kind
  pub flat : has_no_list (accum_of kind) ≡ true
  pub takes : suits (accum_of kind) (given x.1) ≡ true

-- a batch for stripe j
pub record FitsBatch (kinds : List Kind) (stripes j : ℕ) (batch : Batch) : Type 0 where
  pub few : length batch ≤ 2 ^ 35
  pub each : All (FitsInput kinds stripes j) batch

-- a target's content after its own inputs among these
abbrev pub content_after : (kind : Kind) → ℕ → Batch → Holds (accum_of kind)
content_after kind target inputs = model.after (accum_of kind) (model.fresh (accum_of kind)) (given_to target inputs)

-- the content at this place has the kind, and holds this
pub record StandsAt (contents : List Content) (place : ℕ) (kind : Kind) (h : Holds (accum_of kind)) : Type 0 where
  pub content : Content
  pub is : slice_get contents place ≡ Some content
  pub shows : Shows (accum_of kind) content h

-- each target of stripe j has its content after its own inputs among these
pub record HoldsAll (kinds : List Kind) (stripes j : ℕ) (inputs : Batch) (contents : List Content) : Type 0 where
  pub each : (target : ℕ) (kind : Kind) → slice_get kinds target ≡ Some kind → target % stripes ≡ j → StandsAt contents (target / stripes) kind (content_after kind target inputs)

-- all contributions of these puts, one batch after the other
abbrev pub inputs_of : List Put → Batch
inputs_of puts = flat_map (λ p. p.batch) puts

-- one of these puts left its stripe spoiled
abbrev pub any_spoiled : List Put → Bool
any_spoiled puts = list_any (λ p. p.spoiled) puts

-- each kind holds a single number, truth value or average
abbrev pub all_scalar : List Kind → Bool
all_scalar kinds = list_all (λ kind. is_scalar (accum_of kind)) kinds
