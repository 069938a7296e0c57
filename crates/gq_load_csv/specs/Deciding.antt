-- Deciding: either something with a property is found, or nothing has it.
use Rattle.std.specs.Prelude.{◌⊎◌}

-- an item with the property, or a proof that none has it
abbrev pub Found : {A : Type 0} → (A → Type 0) → Type 0
Found {A} P = ((x : A) × P x) ⊎ ((x : A) → P x → ⊥)

-- it holds, or it doesn't
abbrev pub Decided : Type 0 → Type 0
Decided P = P ⊎ (P → ⊥)
