-- Feeding: the state of accumulators between two inputs of a block, and after a batch.
-- Sums may be out of range until all inputs are fed: then they are checked.
use Rattle.std.specs.Prelude.{◌≡◌, ℕ, ◌+◌, ◌^◌, ◌<◌, List, length, slice_get, Some}
use Rattle.std.specs.List.{All}
use Rattle.gq_value.specs.declared.kind.Input.{Input}
use Rattle.gq_value.specs.declared.kind.Slot.{Slot}
use Rattle.gq_value.specs.Accums.{Accum}
use Rattle.gq_value.specs.AccumViews.{accum_of}
use Rattle.gq_accum_laws.specs.Fits.{Fed}
use Rattle.gq_nest.specs.declared.content.Content.{Content, out-Content}
use Rattle.gq_nest.specs.Forms.{view}
use Rattle.gq_nest.specs.Shows.{Shows}
use Rattle.gq_frame.specs.declared.accums.Accums.{Accums}
use Rattle.gq_frame.specs.Targets.{targets_of, number_of}
use Rattle.gq_rules_meaning.specs.Blocks.{Contribution, slots_after}
use Rattle.gq_eval_operand.specs.Sound.{HoldsForms}
use Rattle.gq_frame.specs.Slots.{slots_are}
use Rattle.gq_exec_feed.specs.Taking.{MayTake, AreBatched}

-- a content of a kind, with values of its types, in the range that f inputs can reach
pub record IsFed (k : Accum) (f : ℕ) (c : Content) : Type 0 where
  pub shows : Shows k c (view k (out-Content c))
  pub forms : HoldsForms k (view k (out-Content c))
  pub fed : Fed k (view k (out-Content c)) f

-- each content is such a content of its slot's kind
pub record AreFed (f : ℕ) (a : Accums) : Type 0 where
  pub each : (n vertex : ℕ) (s : Slot) (c : Content) → slice_get a.slots.declared n ≡ Some s → vertex < targets_of a.slots.vertices s
      → slice_get a.contents (number_of a.slots n vertex) ≡ Some c → IsFed (accum_of s.kind) f c

-- the accumulators after these contributions, in the range that as many more inputs can reach
pub record AreAfter (f : ℕ) (old new : Accums) (xs : List Contribution) : Type 0 where
  pub slots : new.slots ≡ old.slots
  pub after : slots_are new ≡ slots_after xs 0 (slots_are old)
  pub fed : AreFed (f + length xs) new

-- the accumulators take a batch: for any contributions that the batch represents, they are the accumulators after these
pub record TakesBatch (old new : Accums) (batch : List (ℕ × Input)) : Type 0 where
  pub each : (f : ℕ) (xs : List Contribution) → AreFed f old → f + length xs < 2 ^ 62 → All (MayTake old.slots) xs → AreBatched old.slots xs batch → AreAfter f old new xs
