-- JobLaws: the law that the contributions of a block's chunks, in order, are those of the block: so the content that they
-- lead to is the block's.
use Rattle.std.specs.Prelude.{◌≡◌, ℕ, zero, suc, ◌<◌, ◌≤◌, List, [], ◌++◌, length, slice_get, Some}
use Rattle.std.specs.List.{All}
use Rattle.gq_value.specs.declared.kind.Slot.{Slot}
use Rattle.gq_value.specs.Accums.{Given}
use Rattle.gq_core.specs.Contents as core
use Rattle.gq_frame.specs.Targets.{targets_of, number_of}
use Rattle.gq_rules_meaning.specs.Answers.{Gives}
use Rattle.gq_rules_meaning.specs.Blocks.{Match, inputs_to}
use Rattle.gq_exec_feed.specs.Taking.{MayTake}
use Rattle.gq_workers.specs.Running.{gives_of, matches_by}
use Rattle.gq_workers.specs.Working.{Job, job_chunk, parts}

-- the contributions of the first chunks, in order
abbrev pub first_chunks : Job → ℕ → List (ℕ × Given)
first_chunks job zero = []
first_chunks job (suc n) = first_chunks job n ++ job_chunk job n

-- those of all chunks to a target
abbrev pub given_to : Job → ℕ → List Given
given_to job target = core.inputs_to target (first_chunks job (parts job.size (length job.candidates)))

-- they are the block's contributions to the accumulator and the vertex of the target
abbrev pub JobLaw : Type 0
JobLaw = (job : Job) (ms : List Match) → 1 ≤ job.size → matches_by job.go 0 job.candidates ≡ Gives ms → All (MayTake job.slots) (gives_of ms)
    → (n v : ℕ) (s : Slot) → slice_get job.slots.declared n ≡ Some s → v < targets_of job.slots.vertices s → given_to job (number_of job.slots n v) ≡ inputs_to n v (gives_of ms)
