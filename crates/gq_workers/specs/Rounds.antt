-- Rounds: the outputs of several workers for some chunks, and how they are combined.
use Rattle.std.specs.Prelude.{◌≡◌, ◌||◌, ℕ, ◌<◌, ◌≤◌, true, List, length, Option, Some, None, Result, Ok, IfOk, slice_get}
use Rattle.std.specs.List.{All}
use Rattle.gq_base.specs.declared.memory.OutOfMemory.{OutOfMemory}
use Rattle.gq_exec_contribute.specs.declared.candidate.Stop.{Stop}
use Rattle.gq_exec_source.specs.Marks.{is_marked}
use Rattle.gq_rules_meaning.specs.Blocks.{Match}
use Rattle.gq_rules_meaning.specs.Calendars.{Calendar}
use Rattle.gq_eval_context.specs.Viewed.{Over, GoTogether}
use Rattle.gq_workers.specs.declared.found.MatchBuffer.{MatchBuffer}
use Rattle.gq_workers.specs.declared.rounds.Work.{Work}
use Rattle.gq_workers.specs.declared.rounds.ChunkOutput.{ChunkOutput}
use Rattle.gq_workers.specs.declared.rounds.WorkerOutput.{WorkerOutput}
use Rattle.gq_workers.specs.declared.rounds.Round.{Round}
use Rattle.gq_workers.specs.declared.rounds.RoundOutput.{RoundOutput}
use Rattle.gq_workers.specs.declared.run.BlockProgress.{BlockProgress}
use Rattle.gq_workers.specs.Running.{come, matches_by, stopped_at, sources_of, targets_of, MatchesTo, AreFedTo, Came, Cover, CoverWhole, HasRun, Mark, IsAtEnd, IsEmpty, IsShaped, IsWork}

-- ---- the outputs of workers

-- the output of a chunk; without a fault its matches are marked in these words
pub record IsLeft (clock : Calendar) (o : Over) (w : Work) (starts ends : List ℕ) (l : ChunkOutput) : Type 0 where
  pub came : Came (come clock o w) w.candidates o l.start l.end l.batches l.inputs l.fault
  pub sources : CoverWhole sources_of (come clock o w) w.candidates l.start l.end starts l.fault
  pub targets : CoverWhole targets_of (come clock o w) w.candidates l.start l.end ends l.fault

-- only ends of matches between the two places are marked
abbrev pub Only : (List Match → List ℕ) → Calendar → Over → Work → ℕ → ℕ → List ℕ → Type 0
Only ends_of clock o w first last words = (vertex : ℕ) → is_marked words vertex ≡ true → (place : ℕ) × (first ≤ place) × (place < last) × IsAtEnd ends_of (come clock o w) w.candidates place vertex

-- the output of a worker for its chunks between two places
pub record IsPart (clock : Calendar) (o : Over) (w : Work) (first last : ℕ) (p : WorkerOutput) : Type 0 where
  pub lefts : All (IsLeft clock o w p.sources p.targets) p.lefts
  pub sources : Only sources_of clock o w first last p.sources
  pub targets : Only targets_of clock o w first last p.targets

-- what the workers of a round see
abbrev pub over_in : Round → Over
over_in r = record { schema = r.graph.catalog.now; vertices = r.graph.store.now.vertices; edges = r.graph.store.now.edges; plan = r.plan.now; tuples = r.tuples.now; frame = r.frame.now }

-- the workers' preconditions
pub record CanWork (r : Round) : Type 0 where
  pub together : GoTogether r.graph.index.now (over_in r)
  pub work : IsWork (over_in r) r.work.now
  pub within : r.last ≤ length r.work.now.candidates

abbrev pub IsRoundPart : Calendar → Round → WorkerOutput → Type 0
IsRoundPart clock r = IsPart clock (over_in r) r.work.now r.first r.last

-- a chunk's matches are marked, and nothing waits any more
pub record LeavesChunk (clock : Calendar) (o : Over) (w : Work) (start end : ℕ) (old new : MatchBuffer) (l : ChunkOutput) : Type 0 where
  pub left : IsLeft clock o w new.sources new.targets l
  pub empty : IsEmpty new
  pub shaped : IsShaped (length o.vertices) new
  pub sources : Mark sources_of (come clock o w) w.candidates start end old.sources new.sources
  pub targets : Mark targets_of (come clock o w) w.candidates start end old.targets new.targets

-- ---- marks brought together

pub record Joins (old other new : List ℕ) : Type 0 where
  pub len : length new ≡ length old
  pub marks : (vertex : ℕ) → is_marked new vertex ≡ (is_marked other vertex || is_marked old vertex)

-- it has no more words of marks than the run
pub record Fits (found : MatchBuffer) (p : WorkerOutput) : Type 0 where
  pub sources : length p.sources ≤ length found.sources
  pub targets : length p.targets ≤ length found.targets

abbrev pub AllFit : List (Result WorkerOutput OutOfMemory) → MatchBuffer → Type 0
AllFit parts found = All (λ part. IfOk part (Fits found)) parts

pub record MarksPart (p : WorkerOutput) (old new : MatchBuffer) : Type 0 where
  pub sources : Joins old.sources p.sources new.sources
  pub targets : Joins old.targets p.targets new.targets
  pub batches : new.batches ≡ old.batches
  pub inputs : new.inputs ≡ old.inputs

-- each worker's output is in the list
abbrev pub AreLefts : Calendar → Over → Work → List ℕ → List ℕ → List (Result WorkerOutput OutOfMemory) → Type 0
AreLefts clock o w sources targets parts = All (λ part. IfOk part (λ p. All (IsLeft clock o w sources targets) p.lefts)) parts

-- all marks of the workers between two places are set, and no others are added
pub record MarksParts (parts : List (Result WorkerOutput OutOfMemory)) (old new : MatchBuffer) : Type 0 where
  pub lefts : (clock : Calendar) (o : Over) (w : Work) (first last : ℕ) → All (λ part. IfOk part (IsPart clock o w first last)) parts → AreLefts clock o w new.sources new.targets parts
  pub sources : (clock : Calendar) (o : Over) (w : Work) (first last : ℕ) → All (λ part. IfOk part (IsPart clock o w first last)) parts → Mark sources_of (come clock o w) w.candidates first last old.sources new.sources
  pub targets : (clock : Calendar) (o : Over) (w : Work) (first last : ℕ) → All (λ part. IfOk part (IsPart clock o w first last)) parts → Mark targets_of (come clock o w) w.candidates first last old.targets new.targets
  pub shaped : (vertices : ℕ) → IsShaped vertices old → IsShaped vertices new
  pub empty : IsEmpty old → IsEmpty new

-- ---- feeding the outputs

-- it is among the outputs of one of the workers
pub record StandsIn (parts : List (Result WorkerOutput OutOfMemory)) (l : ChunkOutput) : Type 0 where
  pub worker : ℕ
  pub part : WorkerOutput
  pub there : slice_get parts worker ≡ Some (Ok part)
  pub place : ℕ
  pub stands : slice_get part.lefts place ≡ Some l

-- the candidates before a place are done and fed, and their matches are marked
pub record InRound (clock : Calendar) (o : Over) (w : Work) (r : BlockProgress) : Type 0 where
  pub matched : List Match
  pub ran : MatchesTo (come clock o w) w.candidates r.at matched
  pub fed : AreFedTo o matched r.accums r.fed
  pub sources : Cover sources_of (come clock o w) w.candidates 0 r.at r.found.sources
  pub targets : Cover targets_of (come clock o w) w.candidates 0 r.at r.found.targets

-- more is fed, or the first fault is returned
abbrev pub Feeds : Calendar → Over → Work → BlockProgress → BlockProgress → Option (ℕ × Stop) → Type 0
Feeds clock o w old new None = InRound clock o w new × (new.found ≡ old.found)
Feeds clock o w old new (Some fault) = matches_by (come clock o w) 0 w.candidates ≡ stopped_at fault.0 fault.1

pub record FeedsLeft (l : ChunkOutput) (old new : BlockProgress) (fault : Option (ℕ × Stop)) : Type 0 where
  pub each : (clock : Calendar) (o : Over) (w : Work) → InRound clock o w old → IsLeft clock o w old.found.sources old.found.targets l → Feeds clock o w old new fault

pub record FeedsParts (parts : List (Result WorkerOutput OutOfMemory)) (old new : BlockProgress) (fault : Option (ℕ × Stop)) : Type 0 where
  pub each : (clock : Calendar) (o : Over) (w : Work) → InRound clock o w old → AreLefts clock o w old.found.sources old.found.targets parts → Feeds clock o w old new fault

-- ---- rounds

-- the candidates of a round are tried; what its workers give isn't fed yet
abbrev pub IsAhead : Calendar → Over → Work → RoundOutput → Type 0
IsAhead clock o w g = All (λ part. IfOk part (IsPart clock o w g.first g.last)) g.parts.items

-- the candidates before a place are done, or the first fault is returned
abbrev pub StandsOr : Calendar → Over → Work → BlockProgress → Option (ℕ × Stop) → Type 0
StandsOr clock o w new None = HasRun clock o w new
StandsOr clock o w new (Some fault) = matches_by (come clock o w) 0 w.candidates ≡ stopped_at fault.0 fault.1

-- what the workers of a round give is fed, as far as it follows what was fed before
pub record FeedsRound (g : RoundOutput) (old new : BlockProgress) (fault : Option (ℕ × Stop)) : Type 0 where
  pub each : (clock : Calendar) (o : Over) (w : Work) → HasRun clock o w old → IsAhead clock o w g → StandsOr clock o w new fault

-- one round is fed and a later one is tried, or the first fault is returned
abbrev pub GoesOn : Calendar → Over → Work → ℕ → BlockProgress → RoundOutput → Option (ℕ × Stop) → Type 0
GoesOn clock o w last new ahead None = HasRun clock o w new × IsAhead clock o w ahead × (last < ahead.last)
GoesOn clock o w last new ahead (Some fault) = matches_by (come clock o w) 0 w.candidates ≡ stopped_at fault.0 fault.1
