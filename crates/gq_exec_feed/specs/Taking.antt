-- Taking: which contributions the accumulators of a query take, and the numbers of their targets.
use Rattle.std.specs.Prelude.{◌≡◌, ℕ, ◌<◌, true, List, map, slice_get, Some}
use Rattle.gq_value.specs.declared.kind.Input.{Input}
use Rattle.gq_value.specs.declared.kind.Slot.{Slot}
use Rattle.gq_value.specs.Accums.{Given}
use Rattle.gq_value.specs.AccumViews.{accum_of, given}
use Rattle.gq_value.specs.Typed.{suits}
use Rattle.gq_frame.specs.declared.slots.Slots.{Slots}
use Rattle.gq_frame.specs.Targets.{targets_of, number_of}
use Rattle.gq_rules_meaning.specs.Blocks.{Contribution}

-- the target of a contribution exists, and its kind takes the input
pub record MayTake (slots : Slots) (c : Contribution) : Type 0 where
  pub slot : Slot
  pub declared : slice_get slots.declared c.slot ≡ Some slot
  pub within : c.vertex < targets_of slots.vertices slot
  pub suited : suits (accum_of slot.kind) c.input ≡ true

-- a contribution, with the number of its target
abbrev pub targeted : Slots → Contribution → ℕ × Given
targeted slots c = (number_of slots c.slot c.vertex, c.input)

-- an input of a batch, with the number of its target
abbrev pub as_given : ℕ × Input → ℕ × Given
as_given x = (x.0, given x.1)

-- a batch represents these contributions, in order
abbrev pub AreBatched : Slots → List Contribution → List (ℕ × Input) → Type 0
AreBatched slots xs batch = map as_given batch ≡ map (targeted slots) xs
