-- Running: the effects of candidates in order: which of them wait, which are fed, and which vertices are marked.
use Rattle.std.specs.Prelude.{◌≡◌, ◌==◌, ◌||◌, ℕ, suc, ◌*◌, ◌<◌, ◌≤◌, Bool, true, false, List, [], ◌∷◌, ◌++◌, length, map, filter_map, take, slice_get, Option, Some, None, IfSome}
use Rattle.std.specs.Option.{option_map}
use Rattle.std.specs.List.{All, flat_map}
use Rattle.gq_value.specs.declared.kind.Input.{Input}
use Rattle.gq_graph.specs.declared.rows.Candidate.{Candidate}
use Rattle.gq_value.specs.declared.value.Wrong.{Wrong}
use Rattle.gq_graph.specs.Candidates.{among}
use Rattle.gq_frame.specs.declared.accums.Accums.{Accums}
use Rattle.gq_exec_source.specs.Marks.{is_marked}
use Rattle.gq_rules_meaning.specs.Answers.{Answer, Gives, Faults, Stuck, ◌>>=◌, blaming}
use Rattle.gq_rules_meaning.specs.Blocks.{BlockFault, AtPlace, Contribution, Match, match_of}
use Rattle.gq_rules_meaning.specs.Calendars.{Calendar}
use Rattle.gq_plan_ir.specs.declared.block.Block.{Block}
use Rattle.gq_plan_ir.specs.BlockView.{view_block, view_walk}
use Rattle.gq_plan_ir.specs.ExprView.{view}
use Rattle.gq_plan_ir.specs.Reference.{Place}
use Rattle.gq_frame.specs.Names.{Placed}
use Rattle.gq_frame.specs.Slots.{slots_are}
use Rattle.gq_rules_typing.specs.Patterns.{edge_alias}
use Rattle.gq_eval_context.specs.Viewed.{Over, viewed}
use Rattle.gq_eval_context.specs.Looks.{look_of}
use Rattle.gq_exec_source.specs.declared.ends.Ends.{Ends}
use Rattle.gq_exec_source.specs.Ends.{HasEnds}
use Rattle.gq_exec_source.specs.Starts.{IsWithin, AreCandidates}
use Rattle.gq_exec_feed.specs.Taking.{MayTake, AreBatched}
use Rattle.gq_exec_feed.specs.Feeding.{AreAfter}
use Rattle.gq_exec_contribute.specs.Passing.{Comes, stopped}
use Rattle.gq_exec_contribute.specs.declared.candidate.Outcome.{Outcome}
use Rattle.gq_exec_contribute.specs.declared.candidate.Stop.{Stop}
use Rattle.gq_exec_contribute.specs.declared.candidate.Stop.TheVariants as stop
use Rattle.gq_workers.specs.declared.found.MatchBuffer.{MatchBuffer}
use Rattle.gq_workers.specs.declared.rounds.Work.{Work}
use Rattle.gq_workers.specs.declared.run.BlockProgress.{BlockProgress}
use Rattle.gq_exec_contribute.specs.Scalars.{as_inputs}
use Rattle.gq_exec_contribute.specs.Aliases.{bound_to}
use Rattle.gq_exec_contribute.specs.Columns.{IsColumn}
use Rattle.gq_exec_contribute.specs.Filters.{IsFilter}
use Rattle.gq_exec_contribute.specs.Prepared.{AreFound}
use Rattle.gq_exec_contribute.specs.declared.scalars.ScalarInput.{ScalarInput}

-- ---- candidates

-- the effect of a candidate under aliases: it sees these, and the accumulators from before the block
abbrev pub comes_under : Calendar → Over → Block → List (ℕ × Placed) → Candidate → Answer Wrong (List Match)
comes_under clock o block aliases c = match_of (view_block block) (slots_are o.frame.accums) c (look_of clock (viewed o aliases o.frame.accums o.frame.accums))

-- under its own aliases
abbrev pub comes : Calendar → Over → Block → Ends → Option ℕ → Candidate → Answer Wrong (List Match)
comes clock o block ends edge c = comes_under clock o block (bound_to ends edge c) c

-- for every candidate with these aliases
abbrev pub ComesUnder : Calendar → Over → Block → List (ℕ × Placed) → List (List (ℕ × Input)) → List (List (ℕ × Input)) → Outcome → Type 0
ComesUnder clock o block aliases old new outcome = (c : Candidate) → Comes o.frame.accums.slots c (comes_under clock o block aliases c) old new outcome

-- the matches among candidates that are numbered from n on, given the effect of each; the first fault counts
abbrev pub matches_by : (Candidate → Answer Wrong (List Match)) → ℕ → List Candidate → Answer BlockFault (List Match)
matches_by go n [] = Gives []
matches_by go n (c ∷ cs) = blaming (AtPlace n) (go c) >>= λ m. matches_by go (suc n) cs >>= λ ms. Gives (m ++ ms)

-- the end of a block whose candidate at a place has no value; what is stuck has no place
abbrev pub stopped_at : {A : Type 0} → ℕ → Stop → Answer BlockFault A
stopped_at n (stop.Wrong w) = Faults (AtPlace n w)
stopped_at n stop.Stuck = Stuck

-- the first `n` candidates are done without a fault, and these are their matches
abbrev pub MatchesTo : (Candidate → Answer Wrong (List Match)) → List Candidate → ℕ → List Match → Type 0
MatchesTo go cs end ms = matches_by go 0 (take end cs) ≡ Gives ms

-- after the candidates before `start`, those up to `end` add these matches
abbrev pub GoOn : (Candidate → Answer Wrong (List Match)) → List Candidate → ℕ → ℕ → List Match → Type 0
GoOn go cs start end ms = (before : List Match) → MatchesTo go cs start before → MatchesTo go cs end (before ++ ms)

-- after them, this is the first fault
abbrev pub FaultAt : (Candidate → Answer Wrong (List Match)) → List Candidate → ℕ → ℕ → Stop → Type 0
FaultAt go cs start place w = (before : List Match) → MatchesTo go cs start before → matches_by go 0 cs ≡ stopped_at place w

-- ---- what waits, and what is fed

abbrev pub gives_of : List Match → List Contribution
gives_of ms = flat_map (λ (m : Match). m.gives) ms

abbrev pub sources_of : List Match → List ℕ
sources_of ms = map (λ (m : Match). m.candidate.source) ms

abbrev pub targets_of : List Match → List ℕ
targets_of ms = filter_map (λ (m : Match). m.candidate.target) ms

-- the contributions of these matches wait: in the batch, followed by the INTs and truth values
pub record Wait (o : Over) (ms : List Match) (batches : List (List (ℕ × Input))) (ints : List (ℕ × ScalarInput)) : Type 0 where
  pub may : All (MayTake o.frame.accums.slots) (gives_of ms)
  pub batch : List (ℕ × Input)
  pub waiting : batches ≡ batch ∷ []
  pub batched : AreBatched o.frame.accums.slots (gives_of ms) (batch ++ as_inputs ints)
  pub within : All (λ (m : Match). IsWithin (length o.vertices) m.candidate) ms

-- the contributions of these matches are fed, and nothing else
pub record AreFedTo (o : Over) (ms : List Match) (accums : Accums) (fed : ℕ) : Type 0 where
  pub after : AreAfter 1 o.frame.accums accums (gives_of ms)
  pub counted : fed ≡ length (gives_of ms)
  pub within : All (λ (m : Match). IsWithin (length o.vertices) m.candidate) ms

-- whatever was fed before, the waiting inputs are fed after it
pub record FedFrom (old new : Accums) (fed : ℕ) (batches : List (List (ℕ × Input))) (ints : List (ℕ × ScalarInput)) (now : ℕ) : Type 0 where
  pub each : (o : Over) (ms more : List Match) → AreFedTo o ms old fed → Wait o more batches ints → AreFedTo o (ms ++ more) new now

-- ---- which vertices are marked

-- the candidate at a place is a match that has this vertex at an end
pub record IsAtEnd (ends_of : List Match → List ℕ) (go : Candidate → Answer Wrong (List Match)) (cs : List Candidate) (place vertex : ℕ) : Type 0 where
  pub candidate : Candidate
  pub matched : List Match
  pub stands : slice_get cs place ≡ Some candidate
  pub comes : go candidate ≡ Gives matched
  pub ends : among (ends_of matched) vertex ≡ true

-- all matches among the candidates from `start` up to `end` are marked
abbrev pub Cover : (List Match → List ℕ) → (Candidate → Answer Wrong (List Match)) → List Candidate → ℕ → ℕ → List ℕ → Type 0
Cover ends_of go cs start end words = (place vertex : ℕ) → start ≤ place → place < end → IsAtEnd ends_of go cs place vertex → is_marked words vertex ≡ true

-- marks remain, and each new mark is at an end of one of these matches
pub record Mark (ends_of : List Match → List ℕ) (go : Candidate → Answer Wrong (List Match)) (cs : List Candidate) (start end : ℕ) (old new : List ℕ) : Type 0 where
  pub kept : (vertex : ℕ) → is_marked old vertex ≡ true → is_marked new vertex ≡ true
  pub only : (vertex : ℕ) → is_marked new vertex ≡ true → is_marked old vertex ≡ false → (place : ℕ) × (start ≤ place) × (place < end) × IsAtEnd ends_of go cs place vertex

-- all matches among the first candidates are marked, and each mark is at an end of a match
pub record AreMarked (ends_of : List Match → List ℕ) (go : Candidate → Answer Wrong (List Match)) (cs : List Candidate) (end : ℕ) (words : List ℕ) : Type 0 where
  pub cover : Cover ends_of go cs 0 end words
  pub only : (vertex : ℕ) → is_marked words vertex ≡ true → (place : ℕ) × IsAtEnd ends_of go cs place vertex

-- one more match is marked, or none
abbrev pub MarkThose : (List Match → List ℕ) → List Match → List ℕ → List ℕ → Type 0
MarkThose ends_of ms old new = (vertex : ℕ) → is_marked new vertex ≡ (among (ends_of ms) vertex || is_marked old vertex)

-- there are at most as many words of marks as any store needs
pub record IsShort (found : MatchBuffer) : Type 0 where
  pub sources : length found.sources ≤ 67108863
  pub targets : length found.targets ≤ 67108863

-- one batch, and a mark for each vertex
pub record IsShaped (vertices : ℕ) (found : MatchBuffer) : Type 0 where
  pub one : length found.batches ≡ 1
  pub sources : vertices ≤ length found.sources * 64
  pub targets : vertices ≤ length found.targets * 64
  pub short : IsShort found

-- nothing waits
pub record IsEmpty (found : MatchBuffer) : Type 0 where
  pub batches : found.batches ≡ [] ∷ []
  pub inputs : found.inputs ≡ []

-- nothing has been found yet
pub record IsOpened (vertices : ℕ) (found : MatchBuffer) : Type 0 where
  pub shaped : vertices ≤ 4194304 → IsShaped vertices found
  pub empty : IsEmpty found
  pub sources : (v : ℕ) → is_marked found.sources v ≡ false
  pub targets : (v : ℕ) → is_marked found.targets v ≡ false

-- these INTs and truth values are appended to the batch, as inputs
pub record AddsInputs (ints : List (ℕ × ScalarInput)) (old new : List (List (ℕ × Input))) : Type 0 where
  pub each : (batch : List (ℕ × Input)) → old ≡ batch ∷ [] → new ≡ (batch ++ as_inputs ints) ∷ []

-- the inputs that wait and the marks are the same
pub record Settles (old new : MatchBuffer) : Type 0 where
  pub shaped : (vertices : ℕ) → IsShaped vertices old → IsShaped vertices new
  pub wait : (o : Over) (ms : List Match) → Wait o ms old.batches old.inputs → Wait o ms new.batches new.inputs
  pub sources : new.sources ≡ old.sources
  pub targets : new.targets ≡ old.targets

-- ---- one candidate

-- the contributions of a candidate are appended to those that wait, and its ends are marked; one that faults marks
-- nothing
abbrev pub Tried : Over → Answer Wrong (List Match) → MatchBuffer → MatchBuffer → Option Stop → Type 0
Tried o go old new None = (m : List Match) × (go ≡ Gives m) × ((ms : List Match) → Wait o ms old.batches old.inputs → Wait o (ms ++ m) new.batches new.inputs) × MarkThose sources_of m old.sources new.sources × MarkThose targets_of m old.targets new.targets
Tried o go old new (Some w) = (go ≡ stopped w) × (new.sources ≡ old.sources) × (new.targets ≡ old.targets)

-- a candidate that could be read is done; else nothing has changed
abbrev pub Done : Over → Answer Wrong (List Match) → MatchBuffer → MatchBuffer → Bool → Type 0
Done o go old new true = Tried o go old new None × IsShaped (length o.vertices) new
Done o go old new false = new ≡ old

-- whether a vertex is the one at an end
abbrev pub marks_end : Option ℕ → ℕ → Bool
marks_end None v = false
marks_end (Some w) v = v == w

-- ---- some candidates one after another

-- the condition of a block is the one that is resolved
abbrev pub IsResolved : Work → Type 0
IsResolved w = IfSome w.filter (IsFilter w.leaves (option_map view w.block.now.filter))

-- the work of a run
pub record IsWork (o : Over) (w : Work) : Type 0 where
  pub ends : HasEnds o.schema o.plan o.frame.things w.block.now w.leaves.ends.now
  pub edge : option_map Place w.leaves.edge ≡ edge_alias (view_walk w.block.now.walk)
  pub candidates : AreCandidates o w.block.now w.candidates
  pub found : AreFound o w.leaves
  pub column : IsColumn o.frame.accums w.column
  pub filter : IsResolved w
  pub some : 1 ≤ w.size

abbrev pub come : Calendar → Over → Work → Candidate → Answer Wrong (List Match)
come clock o w = comes clock o w.block.now w.leaves.ends.now w.leaves.edge

-- the effect of the candidates from one place to another: the contributions of their matches wait, or there is a first
-- fault
abbrev pub Came : (Candidate → Answer Wrong (List Match)) → List Candidate → Over → ℕ → ℕ → List (List (ℕ × Input)) → List (ℕ × ScalarInput) → Option (ℕ × Stop) → Type 0
Came go cs o start end batches ints None = (ms : List Match) × GoOn go cs start end ms × Wait o ms batches ints
Came go cs o start end batches ints (Some fault) = FaultAt go cs start fault.0 fault.1

-- without a fault the matches are marked
abbrev pub CoverWhole : (List Match → List ℕ) → (Candidate → Answer Wrong (List Match)) → List Candidate → ℕ → ℕ → List ℕ → Option (ℕ × Stop) → Type 0
CoverWhole ends_of go cs start end words None = Cover ends_of go cs start end words
CoverWhole ends_of go cs start end words (Some fault) = Unit {0}

-- all of them are tried, or those up to the first fault
pub record GoneThrough (go : Candidate → Answer Wrong (List Match)) (cs : List Candidate) (o : Over) (start end : ℕ) (old new : MatchBuffer) (fault : Option (ℕ × Stop)) : Type 0 where
  pub came : Came go cs o start end new.batches new.inputs fault
  pub shaped : IsShaped (length o.vertices) new
  pub sources : Mark sources_of go cs start end old.sources new.sources
  pub targets : Mark targets_of go cs start end old.targets new.targets
  pub cover_sources : CoverWhole sources_of go cs start end new.sources fault
  pub cover_targets : CoverWhole targets_of go cs start end new.targets fault

-- ---- a run

-- the candidates before a place are done, and their contributions are fed
pub record HasRun (clock : Calendar) (o : Over) (w : Work) (r : BlockProgress) : Type 0 where
  pub matched : List Match
  pub ran : MatchesTo (come clock o w) w.candidates r.at matched
  pub fed : AreFedTo o matched r.accums r.fed
  pub empty : IsEmpty r.found
  pub shaped : IsShaped (length o.vertices) r.found
  pub sources : AreMarked sources_of (come clock o w) w.candidates r.at r.found.sources
  pub targets : AreMarked targets_of (come clock o w) w.candidates r.at r.found.targets

-- it progresses, or ends with the first fault
abbrev pub Steps : Calendar → Over → Work → BlockProgress → BlockProgress → Option (ℕ × Stop) → Type 0
Steps clock o w old new None = HasRun clock o w new × (old.at < new.at)
Steps clock o w old new (Some fault) = matches_by (come clock o w) 0 w.candidates ≡ stopped_at fault.0 fault.1
