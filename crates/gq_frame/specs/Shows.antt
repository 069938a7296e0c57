-- Shows: when a frame shows a state of the definitions.
use Rattle.std.specs.Prelude.{◌≡◌}
use Rattle.gq_eval_operand.specs.Words.{under}
use Rattle.gq_eval_operand.specs.States.{State}
use Rattle.gq_eval_operand.specs.Reference.{Reference}
use Rattle.gq_eval_operand.specs.References.{same}
use Rattle.gq_frame.specs.declared.frame.Frame.{Frame}
use Rattle.gq_frame.specs.Names.{thing_for}
use Rattle.gq_frame.specs.Slots.{slots_are}

-- a name is visible in the state exactly if the frame has something at its place, and both are the same; so are accumulators
pub record Shows (f : Frame) (s : State Reference) : Type 0 where
  pub names : (x : Reference) → under same x s.names ≡ thing_for f.things x
  pub slots : s.slots ≡ slots_are f.accums
