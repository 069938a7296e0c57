-- Targets: the contents of all accumulators of a query, numbered in one row.
-- Here they are listed one by one. The code computes a target's number from the slots before it.
use Rattle.std.specs.Prelude.{if◌then◌else◌, ℕ, suc, ◌+◌, Bool, true, false, List, [], ◌∷◌, ◌++◌, map, take}
use Rattle.std.specs.List.{range_with_len}

-- the targets of the slot at a place, which is attached or not: one for each vertex, or one
abbrev pub slot_targets : ℕ → ℕ → Bool → List (ℕ × ℕ)
slot_targets vertices at true = map (λ v. (at, v)) (range_with_len 0 vertices)
slot_targets vertices at false = (at, 0) ∷ []

-- all targets of slots, as pairs of slot and vertex: in order of declaration, then of vertex
abbrev pub targets_from : ℕ → ℕ → List Bool → List (ℕ × ℕ)
targets_from vertices at [] = []
targets_from vertices at (slot ∷ slots) = slot_targets vertices at slot ++ targets_from vertices (suc at) slots

abbrev pub targets : ℕ → List Bool → List (ℕ × ℕ)
targets vertices slots = targets_from vertices 0 slots

-- how many targets these slots have
abbrev pub target_count : ℕ → List Bool → ℕ
target_count vertices [] = 0
target_count vertices (slot ∷ slots) = (if slot then vertices else 1) + target_count vertices slots

-- the number of a target: those of the slots before, and the vertex
abbrev pub target_number : ℕ → List Bool → ℕ → ℕ → ℕ
target_number vertices slots at v = target_count vertices (take at slots) + v
