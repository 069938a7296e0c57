-- Changes: when the code changes names and accumulators, or reads them, as the definitions do.
use Rattle.std.specs.Prelude.{Result}
use Rattle.gq_rules_meaning.specs.Answers.{Answer}
use Rattle.gq_rules_meaning.specs.States.{State}
use Rattle.gq_rules_meaning.specs.Statements.{Fault}
use Rattle.gq_plan_ir.specs.Reference.{Reference}
use Rattle.gq_frame.specs.declared.frame.Frame.{Frame}
use Rattle.gq_frame.specs.Shows.{Shows}
use Rattle.gq_frame.specs.declared.live.Live.{Live}
use Rattle.gq_frame.specs.Lives.{Lives}
use Rattle.gq_exec_control.specs.declared.running.RunFault.{RunFault}
use Rattle.gq_exec_control.specs.Standing.{Leads, Says}

-- a change of the state, in the definitions
abbrev pub Change : Type 0
Change = State Reference → Answer Fault (State Reference)

-- the live data changes from one state to another as the definitions do
pub record Becomes (does : Change) (old new : Live) (result : Result (Unit {0}) RunFault) : Type 0 where
  pub each : (s : State Reference) → Lives old s → Leads (Lives new) (does s) result

-- the result of reading a frame is what the definitions read of the state that it shows
pub record Reads {A B : Type 0} (view : B → A) (read : State Reference → Answer Fault A) (f : Frame) (result : Result B RunFault) : Type 0 where
  pub each : (s : State Reference) → Shows f s → Says view (read s) result
