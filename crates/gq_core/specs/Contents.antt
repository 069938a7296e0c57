-- Contents: the contents of a finished machine, in which each chunk was put once at each stripe.
-- So a stripe holds the inputs to its targets, whatever the order of the events. The code doesn't compute this: it is a
-- law of the machine.
use Rattle.std.specs.Prelude.{◌≡◌, ℕ, zero, suc, ◌≤◌, ◌%◌, ◌==◌, Bool, true, false, List, [], ◌∷◌, ◌++◌, length, map, filter, flat_map, slice_get, Some}
use Rattle.std.specs.List.Sorted.{IsPermutation}
use Rattle.gq_value.specs.declared.kind.Input.{Input}
use Rattle.gq_value.specs.Accums.{Accum, Given}
use Rattle.gq_value.specs.AccumViews.{given}
use Rattle.gq_value.specs.Typed.{has_no_list}
use Rattle.gq_accum_laws.specs.Holds.{Holds}
use Rattle.gq_accum_laws.specs.After.{fresh, after, merged}
use Rattle.gq_accum_laws.specs.Fits.{IsProper}
use Rattle.gq_core.specs.declared.job.FeedJob.{FeedJob}
use Rattle.gq_core.specs.declared.worker.Phase.{Phase}
use Rattle.gq_core.specs.declared.worker.Phase.TheVariants.{Idle, Ended, Joined}
use Rattle.gq_core.specs.declared.worker.Worker.{Worker}
use Rattle.gq_core.specs.Batches.{batch_of}
use Rattle.gq_core.specs.Machine.{Machine, stripe_at}
use Rattle.gq_core.specs.Accounts.{total, put_of}

-- a chunk is held
abbrev pub has_chunk : Phase → Bool
has_chunk Idle = false
has_chunk Ended = false
has_chunk Joined = false
has_chunk _ = true

-- every chunk was drawn, and no worker holds one
pub record IsFinished (job : FeedJob) (m : Machine) : Type 0 where
  pub drawn : length job.chunks ≤ m.next
  pub free : (w : ℕ) (v : Worker) → slice_get m.workers w ≡ Some v → has_chunk v.phase ≡ false

-- the numbers below n, in order
abbrev pub numbers : ℕ → List ℕ
numbers zero = []
numbers (suc n) = numbers n ++ n ∷ []

-- all contributions, in chunk order
abbrev pub all_of : {A : Type 0} → List (List (ℕ × A)) → List (ℕ × A)
all_of chunks = flat_map (λ chunk. chunk) chunks

-- the inputs to a target, in order
abbrev pub inputs_to : {A : Type 0} → ℕ → List (ℕ × A) → List A
inputs_to target inputs = map (λ input. input.1) (filter (λ input. input.0 == target) inputs)

-- how often a chunk was put at a stripe, over all workers
abbrev pub put_times : Machine → ℕ → ℕ → ℕ
put_times m chunk stripe = total (λ v. put_of chunk stripe v.puts) m.workers

-- the chunks that were laid at a stripe are all chunks, and its inputs are a permutation of all contributions that
-- belong to it
pub record IsShuffled (job : FeedJob) (m : Machine) (stripe : ℕ) : Type 0 where
  pub book : IsPermutation (numbers (length job.chunks)) (stripe_at m stripe).book
  pub inputs : IsPermutation (batch_of job.stripes stripe (all_of job.chunks)) (stripe_at m stripe).inputs

-- the inputs of a target, in order
abbrev pub given_to : ℕ → List (ℕ × Input) → List Given
given_to target inputs = map given (inputs_to target inputs)

-- a target's initial content, merged with the content of its inputs in its stripe, is the content after all its inputs
-- in chunk order, if its kind has no ListAccum at any level and inputs can lead to its initial content
abbrev pub HasAll : FeedJob → Machine → ℕ → Type 0
HasAll job m target = (k : Accum) (c : Holds k) → has_no_list k ≡ true → IsProper k c
    → merged k c (after k (fresh k) (given_to target (stripe_at m (target % job.stripes)).inputs)) ≡ after k c (given_to target (all_of job.chunks))
