-- Slots: the accumulators of a query, as the definitions have them.
-- The code has the contents of all targets in one list.
use Rattle.std.specs.Prelude.{◌≡◌, ℕ, suc, ◌<◌, List, [], ◌∷◌, map, take, drop, slice_get, Some, Result}
use Rattle.gq_value.specs.declared.kind.Slot.{Slot}
use Rattle.gq_value.specs.AccumViews.{accum_of}
use Rattle.gq_nest.specs.declared.content.Content.{Content, out-Content}
use Rattle.gq_nest.specs.Forms.{view}
use Rattle.gq_frame.specs.declared.accums.Accums.{Accums}
use Rattle.gq_frame.specs.Targets.{targets_of, number_of}
use Rattle.gq_eval_operand.specs.States as states
use Rattle.gq_eval_operand.specs.Expressions.{World}
use Rattle.gq_eval_operand.specs.Reference as reference
use Rattle.gq_eval_operand.specs.Reference.{Reference}
use Rattle.gq_eval_operand.specs.References.{same}
use Rattle.gq_eval_operand.specs.declared.seen.Seen.{Seen}
use Rattle.gq_eval_operand.specs.declared.halt.Halt.{Halt}
use Rattle.gq_eval_operand.specs.Meant.{meant, Tells}
use Rattle.gq_eval_operand.specs.Sound.{IsSound}

-- a slot with the contents at its targets
abbrev pub slot_seen : ℕ → Slot → List Content → states.Slot Reference
slot_seen n s cs = record { name = reference.Slot n; attached = s.attached; kind = accum_of s.kind; contents = map (λ c. view (accum_of s.kind) (out-Content c)) cs }

-- the slots from number n on, with the contents of all their targets
abbrev pub slots_from : ℕ → ℕ → List Slot → List Content → List (states.Slot Reference)
slots_from vertices n [] cs = []
slots_from vertices n (s ∷ ss) cs = slot_seen n s (take (targets_of vertices s) cs) ∷ slots_from vertices (suc n) ss (drop (targets_of vertices s) cs)

abbrev pub slots_are : Accums → List (states.Slot Reference)
slots_are a = slots_from a.slots.vertices 0 a.slots.declared a.contents

-- each content is one of its slot's kind, with values of its types and sums in range
pub record AreSound (a : Accums) : Type 0 where
  pub each : (n vertex : ℕ) (s : Slot) (c : Content) → slice_get a.slots.declared n ≡ Some s → vertex < targets_of a.slots.vertices s
      → slice_get a.contents (number_of a.slots n vertex) ≡ Some c → IsSound (accum_of s.kind) c

-- the result is what the accumulator reads as, in any world of a plan
pub record ReadsAs (a : Accums) (n vertex : ℕ) (result : Result Seen Halt) : Type 0 where
  pub each : (world : World Reference) → world.words.same ≡ same → Tells meant (states.read_slot world (slots_are a) (reference.Slot n) vertex) result
