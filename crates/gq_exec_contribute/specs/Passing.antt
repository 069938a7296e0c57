-- Passing: the result of a candidate, and what it adds to the batches.
use Rattle.std.specs.Prelude.{◌≡◌, ℕ, List, [], ◌∷◌, ◌++◌, length, slice_get, Some}
use Rattle.std.specs.List.{All}
use Rattle.gq_value.specs.declared.kind.Input.{Input}
use Rattle.gq_graph.specs.declared.rows.Candidate.{Candidate}
use Rattle.gq_value.specs.declared.value.Wrong.{Wrong}
use Rattle.gq_core.specs.Batches.{batch_of}
use Rattle.gq_frame.specs.declared.slots.Slots.{Slots}
use Rattle.gq_exec_feed.specs.Taking.{MayTake, AreBatched}
use Rattle.gq_rules_meaning.specs.Answers.{Answer, Gives, Faults, Stuck}
use Rattle.gq_rules_meaning.specs.Blocks.{Contribution, Match}
use Rattle.gq_exec_contribute.specs.declared.candidate.Outcome.{Outcome}
use Rattle.gq_exec_contribute.specs.declared.candidate.Outcome.TheVariants as outcome
use Rattle.gq_exec_contribute.specs.declared.candidate.Stop.{Stop}
use Rattle.gq_exec_contribute.specs.declared.candidate.Stop.TheVariants as stop

-- the inputs of each stripe are appended to its batch
pub record GainsAll {A : Type 0} (old new : List (List (ℕ × A))) (inputs : List (ℕ × A)) : Type 0 where
  pub same : length new ≡ length old
  pub gains : (stripe : ℕ) (batch : List (ℕ × A)) → slice_get old stripe ≡ Some batch → slice_get new stripe ≡ Some (batch ++ batch_of (length old) stripe inputs)

-- the contributions of a match are appended, and its accumulators may take all of them
pub record GainsMatch (slots : Slots) (old new : List (List (ℕ × Input))) (gives : List Contribution) : Type 0 where
  pub inputs : List (ℕ × Input)
  pub are : AreBatched slots gives inputs
  pub may : All (MayTake slots) gives
  pub gained : GainsAll old new inputs

-- a meaning that is no value
abbrev pub stopped : {A : Type 0} → Stop → Answer Wrong A
stopped (stop.Wrong w) = Faults w
stopped stop.Stuck = Stuck

-- a match adds its contributions; a candidate that isn't a match, or whose meaning is no value, adds nothing
abbrev pub Comes : Slots → Candidate → Answer Wrong (List Match) → List (List (ℕ × Input)) → List (List (ℕ × Input)) → Outcome → Type 0
Comes slots c o old new outcome.Passed = (gives : List Contribution) × (o ≡ Gives (record { candidate = c; gives = gives } ∷ [])) × GainsMatch slots old new gives
Comes slots c o old new outcome.Filtered = (o ≡ Gives []) × (new ≡ old)
Comes slots c o old new (outcome.Fault w) = (o ≡ stopped w) × (new ≡ old)
