-- Phases: the stage of a seat between two calls, as a phase of a worker.
use Rattle.std.specs.Prelude.{ℕ}
use Rattle.gq_core.specs.declared.worker.Phase.{Phase}
use Rattle.gq_core.specs.declared.worker.Phase.TheVariants as phase
use Rattle.gq_stripe.specs.declared.view.Stage.{Stage}
use Rattle.gq_stripe.specs.declared.view.Stage.TheVariants.{Idle, Ended, Holds}

-- a chunk that is held is put at the first stripe next
abbrev pub phase_of : Stage → Phase
phase_of Idle = phase.Idle
phase_of Ended = phase.Ended
phase_of (Holds chunk) = phase.Holds chunk 0

-- 1 if a chunk is held
abbrev pub held_by : Stage → ℕ
held_by (Holds chunk) = 1
held_by _ = 0
