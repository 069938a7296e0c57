-- Sink: what a sink holds after a write. Nothing is specified for a sink that doesn't say what it holds.
use Rattle.std.specs.Prelude.{◌≡◌, ℕ, ◌<◌, ◌≤◌, List, ◌++◌, length, take, Option, option_map}

-- these bytes were appended to what was written before
abbrev pub Appends : Option (List ℕ) → Option (List ℕ) → List ℕ → Type 0
Appends old new bytes = new ≡ option_map (λ written. written ++ bytes) old

-- a prefix of these bytes was appended to what was written before
abbrev pub AppendsPrefix : Option (List ℕ) → Option (List ℕ) → List ℕ → Type 0
AppendsPrefix old new bytes = (n : ℕ) × (n ≤ length bytes) × Appends old new (take n bytes)

-- the first n bytes of a piece were appended: at least one, if the piece isn't empty
pub record TakesSome (old new : Option (List ℕ)) (piece : List ℕ) (n : ℕ) : Type 0 where
  pub most : n ≤ length piece
  pub some : 0 < length piece → 0 < n
  pub after : Appends old new (take n piece)
