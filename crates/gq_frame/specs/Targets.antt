-- Targets: the content at each target of the accumulators that a query declares.
-- gq_accum_laws defines the number of a target. The code has the contents in one list, in the order of these numbers.
use Rattle.std.specs.Prelude.{if◌then◌else◌, ◌≡◌, ℕ, ◌<◌, Bool, List, [], ◌∷◌, map, length, slice_get, Some}
use Rattle.gq_value.specs.declared.kind.Slot.{Slot}
use Rattle.gq_value.specs.Accums.{Accum}
use Rattle.gq_value.specs.AccumViews.{accum_of}
use Rattle.gq_accum_laws.specs.Holds.{Holds}
use Rattle.gq_accum_laws.specs.After.{fresh}
use Rattle.gq_accum_laws.specs.Targets.{target_count, target_number}
use Rattle.gq_nest.specs.declared.content.Content.{Content}
use Rattle.gq_nest.specs.Shows.{Shows, ShowsTheSame}
use Rattle.gq_frame.specs.declared.slots.Slots.{Slots}

-- which of the slots are attached
abbrev pub attached_in : List Slot → List Bool
attached_in slots = map (λ s. s.attached) slots

-- the number of targets of a slot
abbrev pub targets_of : ℕ → Slot → ℕ
targets_of vertices s = if s.attached then vertices else 1

-- the number of the target of a slot and a vertex
abbrev pub number_of : Slots → ℕ → ℕ → ℕ
number_of slots at vertex = target_number slots.vertices (attached_in slots.declared) at vertex

-- the content at a target shows this
pub record ShowsAt (contents : List Content) (target : ℕ) (k : Accum) (h : Holds k) : Type 0 where
  pub content : Content
  pub stands : slice_get contents target ≡ Some content
  pub shows : Shows k content h

-- as many contents as there are targets, each of its slot's kind and before any input
pub record AreOpen (slots : Slots) (contents : List Content) : Type 0 where
  pub count : length contents ≡ target_count slots.vertices (attached_in slots.declared)
  pub each : (at vertex : ℕ) (s : Slot) → slice_get slots.declared at ≡ Some s → vertex < targets_of slots.vertices s
      → ShowsAt contents (number_of slots at vertex) (accum_of s.kind) (fresh (accum_of s.kind))

-- as many contents, and each shows what the one in its place shows
abbrev pub ShowTheSame : List Content → List Content → Type 0
ShowTheSame [] [] = Unit {0}
ShowTheSame (c ∷ cs) (d ∷ ds) = ShowsTheSame c d × ShowTheSame cs ds
ShowTheSame _ _ = ⊥
