-- Working: a worker's part of a block through a book of stripes and words: each chunk that it drew is put with its
-- contributions, and its candidates feed the words.
-- Here a chunk is a part of the list of candidates. The code goes through them one by one, and counts.
use Rattle.std.specs.Prelude.{◌≡◌, ◌⊎◌, ℕ, suc, ◌+◌, ◌*◌, ◌/◌, ◌%◌, ◌^◌, true, false, List, [], ◌∷◌, ◌++◌, length, map, min, max, replicate, slice_get, Option, Some, None}
use Rattle.std.specs.List.{All, flat_map}
use Rattle.std.specs.Option.{option_map}
use Rattle.std.specs.Fork.{slice_chunk}
use Rattle.gq_value.specs.declared.kind.Kind.{Kind}
use Rattle.gq_value.specs.declared.kind.Slot.{Slot}
use Rattle.gq_value.specs.declared.kind.Input.{Input}
use Rattle.gq_value.specs.declared.value.Wrong.{Wrong}
use Rattle.gq_value.specs.Accums.{Given}
use Rattle.gq_value.specs.AccumViews.{accum_of}
use Rattle.gq_value.specs.Typed.{has_no_list}
use Rattle.gq_graph.specs.declared.rows.Candidate.{Candidate}
use Rattle.gq_frame.specs.declared.slots.Slots.{Slots}
use Rattle.gq_frame.specs.Targets.{targets_of}
use Rattle.gq_core.specs.Batches.{batch_of}
use Rattle.gq_stripe.specs.declared.view.Plan.{Plan}
use Rattle.gq_stripe.specs.declared.view.View.{View}
use Rattle.gq_stripe.specs.Steps.{got, last}
use Rattle.gq_stripe.specs.Seats.{HasPut}
use Rattle.gq_words.specs.declared.fold.Op.{Op}
use Rattle.gq_words.specs.declared.fold.Op.TheVariants.{Min, Or}
use Rattle.gq_words.specs.declared.view.View as words
use Rattle.gq_words.specs.Fold.{Feed}
use Rattle.gq_words.specs.Rule.{view}
use Rattle.gq_words.specs.declared.words.Words.{Words}
use Rattle.gq_words.specs.Seats.{openings_of}
use Rattle.gq_io.specs.declared.shape.Shape.{Shape}
use Rattle.gq_rules_typing.specs.Patterns.{edge_alias}
use Rattle.gq_rules_meaning.specs.Calendars.{Calendar}
use Rattle.gq_rules_meaning.specs.Answers.{Answer, Gives}
use Rattle.gq_rules_meaning.specs.Blocks.{Contribution, Match}
use Rattle.gq_exec_feed.specs.Taking.{MayTake, AreBatched, as_given, targeted}
use Rattle.gq_exec_contribute.specs.Passing.{GainsAll}
use Rattle.gq_plan_ir.specs.declared.block.Block.{Block}
use Rattle.gq_plan_ir.specs.BlockView.{view_walk}
use Rattle.gq_plan_ir.specs.Reference.{Place}
use Rattle.gq_eval_context.specs.Viewed.{Over}
use Rattle.gq_exec_source.specs.declared.ends.Ends.{Ends}
use Rattle.gq_workers.specs.declared.seats.Task.{Task}
use Rattle.gq_workers.specs.Running.{comes, gives_of}

-- ---- a block's candidates, in chunks

-- what comes of each candidate; the accumulators and how many vertices there are; how many candidates a chunk has, and
-- into how many stripes contributions are divided
pub record Job : Type 0 where
  pub go : Candidate → Answer Wrong (List Match)
  pub slots : Slots
  pub vertices : ℕ
  pub candidates : List Candidate
  pub size : ℕ
  pub stripes : ℕ

-- a chunk of 0 counts as 1
abbrev pub job_of : Calendar → Over → Block → Ends → Option ℕ → List Candidate → Shape → Job
job_of clock o block ends edge cs shape = record { go = comes clock o block ends edge; slots = o.frame.accums.slots; vertices = length o.vertices; candidates = cs; size = max shape.chunk 1; stripes = shape.stripes }

-- the place of the alias of a block's edge
abbrev pub IsEdgePlace : Block → Option ℕ → Type 0
IsEdgePlace block edge = option_map Place edge ≡ edge_alias (view_walk block.walk)

-- ---- the tables of a block

-- the kind of each target of these accumulators, in order of number
abbrev pub kinds_from : ℕ → List Slot → List Kind
kinds_from vertices [] = []
kinds_from vertices (s ∷ slots) = replicate (targets_of vertices s) s.kind ++ kinds_from vertices slots

abbrev pub kinds_of : Slots → List Kind
kinds_of slots = kinds_from slots.vertices slots.declared

-- how many parts of this size a list has
abbrev pub parts : ℕ → ℕ → ℕ
parts size n = n / size + min 1 (n % size)

-- a word for the least place of a candidate that faults; then words with a bit for each vertex, for the sources and for
-- the targets of matches
abbrev pub marks : ℕ → ℕ
marks vertices = parts 64 vertices

abbrev pub word_openings : ℕ → List (Op × ℕ)
word_openings vertices = (Min, 18446744073709551615) ∷ replicate (2 * marks vertices) (Or, 0)

-- the tables of a block; no accumulator is a list at any level
pub record AreTables (job : Job) (plan : Plan) (words : List (Op × ℕ)) : Type 0 where
  pub layout : plan.layout ≡ kinds_of job.slots
  pub flat : All (λ (s : Slot). has_no_list (accum_of s.kind) ≡ true) job.slots.declared
  pub chunks : plan.chunks ≡ parts job.size (length job.candidates)
  pub stripes : plan.stripes ≡ job.stripes
  pub openings : words ≡ word_openings job.vertices

-- ---- candidates

-- the contributions of a candidate; one that faults has none
abbrev pub given_in : Answer Wrong (List Match) → List Contribution
given_in (Gives ms) = gives_of ms
given_in _ = []

-- the bit of a vertex, in the words from this one on
abbrev pub mark_of : ℕ → ℕ → Feed
mark_of first vertex = (first + vertex / 64, 2 ^ (vertex % 64))

abbrev pub mark_in : ℕ → Option ℕ → List Feed
mark_in first None = []
mark_in first (Some vertex) = mark_of first vertex ∷ []

-- a match feeds the bits of its ends
abbrev pub marks_of : ℕ → List Match → List Feed
marks_of vertices [] = []
marks_of vertices (m ∷ ms) = mark_of 1 m.candidate.source ∷ (mark_in (1 + marks vertices) m.candidate.target ++ marks_of vertices ms)

-- and a candidate that faults its place
abbrev pub feeds_in : ℕ → ℕ → Answer Wrong (List Match) → List Feed
feeds_in vertices place (Gives ms) = marks_of vertices ms
feeds_in vertices place _ = (0, place) ∷ []

-- ---- chunks

-- the contributions of these candidates, in order
abbrev pub given_by : (Candidate → Answer Wrong (List Match)) → List Candidate → List Contribution
given_by go cs = flat_map (λ c. given_in (go c)) cs

-- what they feed to the words of so many vertices; the first one has the place n
abbrev pub fed_by : (Candidate → Answer Wrong (List Match)) → ℕ → ℕ → List Candidate → List Feed
fed_by go vertices n [] = []
fed_by go vertices n (c ∷ cs) = feeds_in vertices n (go c) ++ fed_by go vertices (suc n) cs

-- the contributions of a chunk, each with the number of its target
abbrev pub job_chunk : Job → ℕ → List (ℕ × Given)
job_chunk job chunk = map (targeted job.slots) (given_by job.go (slice_chunk job.candidates job.size chunk))

-- a batch for each stripe, with what the chunk gives to it
pub record AreJobBatches (job : Job) (chunk : ℕ) (batches : List (List (ℕ × Input))) : Type 0 where
  pub count : length batches ≡ job.stripes
  pub each : (stripe : ℕ) (batch : List (ℕ × Input)) → slice_get batches stripe ≡ Some batch → map as_given batch ≡ batch_of job.stripes stripe (job_chunk job chunk)

-- ---- the worker's seats

abbrev pub with_feeds : words.View → List Feed → words.View
with_feeds w feeds = view w.stands w.spare (w.feeds ++ feeds)

-- one chunk was drawn, it was put at each stripe with the block's contributions, and what its candidates feed was fed
pub record DoesChunk (job : Job) (chunk : ℕ) (old new : View) (before after : words.View) : Type 0 where
  pub batches : List (List (ℕ × Input))
  pub are : AreJobBatches job chunk batches
  pub put : HasPut chunk batches false (got old chunk) new
  pub fed : after ≡ with_feeds before (fed_by job.go job.vertices (chunk * job.size) (slice_chunk job.candidates job.size chunk))

-- these chunks were, one after the other
abbrev pub DoesChunks : Job → List ℕ → View → View → words.View → words.View → Type 0
DoesChunks job [] old new before after = (new ≡ old) × (after ≡ before)
DoesChunks job (chunk ∷ chunks) old new before after =
    (mid : View) × ((between : words.View) × (DoesChunk job chunk old mid before between × DoesChunks job chunks mid new between after))

-- the worker did these chunks, and ended: it found no more
pub record Works (job : Job) (old new : View) (before after : words.View) : Type 0 where
  pub chunks : List ℕ
  pub stood : View
  pub does : DoesChunks job chunks old stood before after
  pub ended : new ≡ last stood

-- ---- while a chunk is tried

-- these candidates, from the place n on, are tried: the batches have their contributions, and what they feed is fed
pub record Gathers (job : Job) (n : ℕ) (cs : List Candidate) (batches : List (List (ℕ × Input))) (before after : words.View) : Type 0 where
  pub inputs : List (ℕ × Input)
  pub may : All (MayTake job.slots) (given_by job.go cs)
  pub batched : AreBatched job.slots (given_by job.go cs) inputs
  pub gained : GainsAll (replicate job.stripes []) batches inputs
  pub fed : after ≡ with_feeds before (fed_by job.go job.vertices n cs)

-- after candidates that were tried before, this one is the next
abbrev pub GathersOne : Job → ℕ → Candidate → List (List (ℕ × Input)) → List (List (ℕ × Input)) → words.View → words.View → Type 0
GathersOne job n c old new before after = (first : words.View) (start : ℕ) (cs : List Candidate) → start + length cs ≡ n → Gathers job start cs old first before → Gathers job start (cs ++ c ∷ []) new first after

-- the words of a block over so many vertices, and where those of its sources and of its targets begin
abbrev pub AreWords : ℕ → Words → Type 0
AreWords vertices words = openings_of words ≡ word_openings vertices

abbrev pub IsFirst : ℕ → ℕ → Type 0
IsFirst vertices first = (first ≡ 1) ⊎ (first ≡ 1 + marks vertices)

abbrev pub task_job : Calendar → Over → Task → ℕ → Job
task_job clock o task stripes = record { go = comes clock o task.block.now task.ends.now task.edge; slots = o.frame.accums.slots; vertices = length o.vertices; candidates = task.candidates.now; size = task.size; stripes = stripes }
