-- Outcome: the output and status of a run, and how a call keeps to it.
use Rattle.std.specs.Prelude.{◌≡◌, ◌≢◌, ◌⊎◌, ℕ, ◌≤◌, List, [], ◌∷◌, ◌++◌, length, take, Option}
use Rattle.std.specs.List.{concat}
use Rattle.gq_io.specs.Sink.{Appends, AppendsPrefix}
use Rattle.gq_json.specs.Json.{error_text}
use Rattle.gq_diagnostics.specs.declared.status.Status.{Status}
use Rattle.gq_diagnostics.specs.declared.status.Status.TheVariants.{Done, Refused, Usage, ReadFault, WriteFault, OutOfMemory}

-- the lines in order, each with its line feed, and the status
pub record Outcome : Type 0 where
  pub lines : List (List ℕ)
  pub status : Status

-- a run that has come to its end
abbrev pub done : Outcome
done = record { lines = []; status = Done }

-- lines, and then the rest of the run
abbrev pub lines_then : List (List ℕ) → Outcome → Outcome
lines_then lines outcome = record { lines = lines ++ outcome.lines; status = outcome.status }

-- a run that is refused at this point with this line
abbrev pub ended_by : List ℕ → Outcome
ended_by line = record { lines = line ∷ []; status = Refused }

-- a run that is refused at this point with this message
abbrev pub refused_with : List ℕ → Outcome
refused_with message = ended_by (error_text message)

-- a command line that isn't accepted
abbrev pub usage : Outcome
usage = record { lines = []; status = Usage }

-- the statuses of a run that wasn't cut short
abbrev pub IsFinal : Status → Type 0
IsFinal status = (status ≡ Done) ⊎ (status ≡ Refused) ⊎ (status ≡ Usage)

-- the first of these lines were written completely
abbrev pub AppendsLines : Option (List ℕ) → Option (List ℕ) → List (List ℕ) → Type 0
AppendsLines old new lines = (n : ℕ) × (n ≤ length lines) × Appends old new (concat (take n lines))

-- the status is the outcome's, and its lines were written
abbrev pub Ends : Outcome → Status → Option (List ℕ) → Option (List ℕ) → Type 0
Ends outcome status old new = (status ≡ outcome.status) × Appends old new (concat outcome.lines)

-- The status and the output are the outcome's, or a counted fault or OutOfMemory ended the run early.
pub record KeepsTo (outcome : Outcome) (status : Status) (old new : Option (List ℕ)) (files_failed sink_failed : Type 0) : Type 0 where
  pub final : IsFinal status → Ends outcome status old new
  pub read_fault : status ≡ ReadFault → files_failed × AppendsLines old new outcome.lines
  pub write_fault : status ≡ WriteFault → sink_failed × AppendsPrefix old new (concat outcome.lines)
  pub memory : status ≡ OutOfMemory → AppendsPrefix old new (concat outcome.lines)

-- The status is one of a call that reads no file and has valid arguments: only its writes may fail.
pub record OnlyWrites (status : Status) (sink_failed : Type 0) : Type 0 where
  pub no_usage : status ≢ Usage
  pub no_read_fault : status ≢ ReadFault
  pub write_fault : status ≡ WriteFault → sink_failed

-- The status is one of a call that has valid arguments.
pub record OnlyRuns (status : Status) (files_failed sink_failed : Type 0) : Type 0 where
  pub no_usage : status ≢ Usage
  pub read_fault : status ≡ ReadFault → files_failed
  pub write_fault : status ≡ WriteFault → sink_failed
