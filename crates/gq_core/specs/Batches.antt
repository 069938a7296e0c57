-- Batches: which contributions of a chunk belong to which stripe.
-- The code keeps a list for each stripe, and appends to one of them.
use Rattle.std.specs.Prelude.{◌≡◌, ℕ, ◌%◌, ◌==◌, List, [], ◌∷◌, ◌++◌, length, slice_get, Some, filter, flat_map, unwrap_or}

-- the contributions that belong to a stripe: those whose target has this remainder
abbrev pub batch_of : {A : Type 0} → ℕ → ℕ → List (ℕ × A) → List (ℕ × A)
batch_of stripes stripe inputs = filter (λ input. input.0 % stripes == stripe) inputs

-- the contributions of a chunk, by its number
abbrev pub chunk_at : {A : Type 0} → List (List (ℕ × A)) → ℕ → List (ℕ × A)
chunk_at chunks chunk = unwrap_or (slice_get chunks chunk) []

-- the batches of these chunks for a stripe, concatenated
abbrev pub batches_of : {A : Type 0} → List (List (ℕ × A)) → ℕ → ℕ → List ℕ → List (ℕ × A)
batches_of chunks stripes stripe book = flat_map (λ chunk. batch_of stripes stripe (chunk_at chunks chunk)) book

-- one contribution is appended to the list of its stripe, and the other lists are unchanged
pub record Gains {A : Type 0} (old new : List (List (ℕ × A))) (target : ℕ) (input : A) : Type 0 where
  pub same : length new ≡ length old
  pub gains : (stripe : ℕ) (batch : List (ℕ × A)) → slice_get old stripe ≡ Some batch → slice_get new stripe ≡ Some (batch ++ batch_of (length old) stripe ((target, input) ∷ []))
