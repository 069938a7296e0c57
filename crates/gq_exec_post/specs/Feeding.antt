-- Feeding: the end of a phase, when the global accumulators are fed.
use Rattle.std.specs.Prelude.{◌≡◌, ℕ, ◌^◌, ◌<◌, length, Option, Some, None, Result, Ok, Err}
use Rattle.gq_rules_meaning.specs.Blocks.{first_unfit}
use Rattle.gq_frame.specs.declared.accums.Accums.{Accums}
use Rattle.gq_frame.specs.Slots.{slots_are}
use Rattle.gq_exec_feed.specs.Feeding.{AreFed, TakesBatch}
use Rattle.gq_eval_context.specs.declared.after.BlockFault.{BlockFault}
use Rattle.gq_eval_context.specs.declared.after.BlockFault.TheVariants as fault
use Rattle.gq_exec_post.specs.declared.waiting.Waiting.{Waiting}
use Rattle.gq_exec_post.specs.Waiting.{batch_of}

-- the accumulators take all waiting inputs, which are few enough to feed at once
pub record AreAllFed (old new : Accums) (w : Waiting) : Type 0 where
  pub few : length (batch_of w) < 2 ^ 61
  pub takes : TakesBatch old new (batch_of w)

-- the accumulators themselves if all contents fit, or the first one with a content that doesn't
abbrev pub UnfitSo : Accums → Option ℕ → Result Accums BlockFault → Type 0
UnfitSo a o (Ok b) = (o ≡ None) × (b ≡ a)
UnfitSo a o (Err (fault.SumRange n)) = o ≡ Some n
UnfitSo a o (Err (fault.Eval at w)) = ⊥
UnfitSo a o (Err fault.Stuck) = ⊥
UnfitSo a o (Err fault.OutOfMemory) = Unit {0}

pub record IsJudged (a : Accums) (result : Result Accums BlockFault) : Type 0 where
  pub each : (f : ℕ) → AreFed f a → UnfitSo a (first_unfit 0 (slots_are a)) result
