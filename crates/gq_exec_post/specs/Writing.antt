-- Writing: the state of a phase of POST-ACCUM between two vertices.
use Rattle.std.specs.Prelude.{◌≡◌, Result, Ok, Err}
use Rattle.std.specs.List.{All}
use Rattle.gq_rules_meaning.specs.Posts.{Written}
use Rattle.gq_plan_ir.specs.Reference.{Reference}
use Rattle.gq_frame.specs.Slots.{AreSound, slots_are}
use Rattle.gq_frame.specs.declared.accums.Accums.{Accums}
use Rattle.gq_eval_context.specs.declared.after.BlockFault.{BlockFault}
use Rattle.gq_exec_post.specs.declared.writing.Writing.{Writing}
use Rattle.gq_exec_post.specs.Waiting.{IsTaken, batch_of, waiting_are}

-- the state in the terms of the definitions
abbrev pub written : Writing → Written Reference
written w = record { slots = slots_are w.accums; to_globals = waiting_are w.accums.slots w.waiting }

-- all waiting inputs have targets that take them
pub record AreTaken (w : Writing) : Type 0 where
  pub each : All (IsTaken w.accums.slots) (batch_of w.waiting)

-- sound accumulators of the same slots
pub record KeepsTo (old new : Accums) : Type 0 where
  pub sound : AreSound new
  pub slots : new.slots ≡ old.slots

-- what a step leaves: the state after it, or its fault
abbrev pub left : {U : Type 0} → Result U BlockFault → Writing → Result Writing BlockFault
left (Ok u) w = Ok w
left (Err e) w = Err e
