-- RunLemmas: candidate after candidate and chunk after chunk, in terms of the definitions.
use Rattle.std.proofs.Common.{◌≡◌, ℕ, ℤ, zero, suc, ◌+◌, ◌*◌, ◌<◌, ◌≤◌, ◌||◌, Bool, true, false, List, [], ◌∷◌, ◌++◌, take, drop, length, replicate, slice_get, Option, Some, None, Result, Ok, Err, refl, sym, ap, ap₂, ◌∙◌, subst, arith, append-nil, append_assoc}
use Rattle.std.specs.Option.{option_map}
use Rattle.gq_graph.specs.declared.rows.Candidate.{Candidate}
use Rattle.gq_value.specs.declared.value.Wrong.{Wrong}
use Rattle.gq_rules_typing.specs.Patterns.{edge_alias}
use Rattle.gq_rules_meaning.specs.Answers.{Answer, Gives, Faults, Stuck, ◌>>=◌, blaming}
use Rattle.gq_rules_meaning.specs.Blocks as blocks
use Rattle.gq_rules_meaning.specs.Blocks.{AtPlace, Match, match_of, look_at, matches, after_matches, accumulated}
use Rattle.gq_rules_meaning.specs.Calendars.{Calendar}
use Rattle.gq_rules_meaning.specs.Sources.{From, from, with_candidate}
use Rattle.gq_rules_meaning.specs.States.{State, sight}
use Rattle.gq_plan_ir.specs.declared.block.Block.{Block}
use Rattle.gq_plan_ir.specs.BlockView.{view_block, view_walk}
use Rattle.gq_plan_ir.specs.PlanView.{accum_names}
use Rattle.gq_plan_ir.specs.Reference.{Reference, Place}
use Rattle.gq_eval_attributes.specs.Tuples.{tuples_are}
use Rattle.gq_frame.specs.Shows.{Shows}
use Rattle.gq_frame.specs.Slots.{slots_are}
use Rattle.gq_eval_context.specs.Viewed.{Over, viewed}
use Rattle.gq_eval_context.specs.Looks.{look_of, world_over}
use Rattle.gq_eval_context.specs.LookLaws.{look_over}
use Rattle.gq_exec_source.specs.declared.ends.Ends.{Ends}
use Rattle.gq_exec_source.specs.Ends.{HasEnds}
use Rattle.std.proofs.lemmas.List.Elements.{All-nil, recursion_from_All}
use Rattle.gq_exec_source.specs.Starts.{IsWithin, AreCandidates}
use Rattle.gq_eval_context.specs.declared.after.After.{After}
use Rattle.gq_eval_context.specs.declared.after.BlockFault.{BlockFault}
use Rattle.gq_eval_context.specs.declared.after.BlockFault.TheVariants as fault
use Rattle.gq_eval_context.specs.Answered.{Answered, after_is}
use Rattle.gq_exec_feed.specs.Taking.{MayTake}
use Rattle.gq_exec_feed.proofs.PlaceLemmas.{same_some, none_apart}
use Rattle.gq_workers.specs.declared.block.Ran.TheVariants as ran
use Rattle.gq_workers.specs.declared.found.MatchBuffer.{MatchBuffer}
use Rattle.gq_workers.specs.declared.run.BlockProgress.{BlockProgress}
use Rattle.gq_workers.specs.declared.rounds.Work.{Work}
use Rattle.gq_exec_contribute.specs.Aliases.{bound_to}
use Rattle.gq_exec_contribute.specs.declared.candidate.Stop.{Stop}
use Rattle.gq_exec_contribute.specs.declared.candidate.Stop.TheVariants as stop
use Rattle.gq_exec_contribute.specs.Passing.{stopped}
use Rattle.gq_workers.specs.Running.{comes, come, matches_by, stopped_at, sources_of, targets_of, MatchesTo, GoOn, FaultAt, Wait, AreFedTo, FedFrom, Mark, Cover, AreMarked, IsShaped, IsEmpty, IsOpened, Tried, IsWork, Came, GoneThrough, HasRun, Steps}
use Rattle.gq_workers.specs.Results.{Answers, Leaves, IsJudged, IsBegun, RanTo, block_matches, stop_fault}
use Rattle.gq_workers.proofs.AliasLemmas.{named_all}
use Rattle.gq_workers.proofs.MarkLemmas.{mark_first, cover_first, mark_next, cover_next, mark_wider, marked_first, marked_more, sources_over, targets_over}
use Rattle.gq_exec_contribute.specs.declared.scalars.ScalarInput.{ScalarInput}

-- ---- one more candidate

abbrev given : List Match → Answer blocks.BlockFault (List Match)
given ms = Gives ms

-- a candidate without a value ends all behind it
stops : (n : ℕ) (f : List Match → Answer blocks.BlockFault (List Match)) (w : Stop) → (blaming (AtPlace n) (stopped w) >>= f) ≡ stopped_at n w
stops n f (stop.Wrong w) = refl
stops n f stop.Stuck = refl

gives_same : (a b : List Match) → given a ≡ given b → a ≡ b
gives_same a b h = cc

module _ (go : Candidate → Answer Wrong (List Match)) where
  -- the fault of one of the first candidates, or their matches
  matches_then : (n : ℕ) (xs : List Candidate) (c : Candidate) (rest : List Candidate) (ms : List Match) → matches_by go n xs ≡ Gives ms
      → matches_by go n (xs ++ c ∷ rest) ≡ (blaming (AtPlace (n + length xs)) (go c) >>= λ m. matches_by go (suc (n + length xs)) rest >>= λ ns. Gives (ms ++ (m ++ ns)))
  matches_then n [] c rest ms e = (let z : n + 0 ≡ n = omega arith in ap (λ (k : ℕ). blaming (AtPlace k) (go c) >>= λ m. matches_by go (suc k) rest >>= λ ns. Gives (m ++ ns)) (sym z))
      ∙ ap (λ (l : List Match). blaming (AtPlace (n + 0)) (go c) >>= λ m. matches_by go (suc (n + 0)) rest >>= λ ns. Gives (l ++ (m ++ ns))) (gives_same [] ms e)
  matches_then n (x ∷ xs) c rest ms e = by (go x) (matches_by go (suc n) xs) refl refl e (λ ks h. matches_then (suc n) xs c rest ks h)
    where
      goal : Answer blocks.BlockFault (List Match)
      goal = blaming (AtPlace (n + suc (length xs))) (go c) >>= λ m. matches_by go (suc (n + suc (length xs))) rest >>= λ ns. Gives (ms ++ (m ++ ns))

      by : (g : Answer Wrong (List Match)) (r : Answer blocks.BlockFault (List Match)) → go x ≡ g → matches_by go (suc n) xs ≡ r → (blaming (AtPlace n) g >>= λ m. r >>= λ ks. Gives (m ++ ks)) ≡ Gives ms
          → ((ks : List Match) → matches_by go (suc n) xs ≡ Gives ks → matches_by go (suc n) (xs ++ c ∷ rest) ≡ (blaming (AtPlace (suc n + length xs)) (go c) >>= λ m. matches_by go (suc (suc n + length xs)) rest >>= λ ns. Gives (ks ++ (m ++ ns))))
          → matches_by go n (x ∷ (xs ++ c ∷ rest)) ≡ goal
      by (Gives m) (Gives ks) p q h more =
          ap (λ g. blaming (AtPlace n) g >>= λ m. matches_by go (suc n) (xs ++ c ∷ rest) >>= λ ls. Gives (m ++ ls)) p
          ∙ ap (λ r. r >>= λ ls. Gives (m ++ ls)) (more ks q)
          ∙ (let z : suc n + length xs ≡ n + suc (length xs) = omega arith in ap (λ (k : ℕ). (blaming (AtPlace k) (go c) >>= λ j. matches_by go (suc k) rest >>= λ ns. Gives (ks ++ (j ++ ns))) >>= λ ls. Gives (m ++ ls)) z)
          ∙ turned (blaming (AtPlace (n + suc (length xs))) (go c)) (matches_by go (suc (n + suc (length xs))) rest) (gives_same (m ++ ks) ms h)
        where
          turned : (a b : Answer blocks.BlockFault (List Match)) → m ++ ks ≡ ms → ((a >>= λ j. b >>= λ ns. Gives (ks ++ (j ++ ns))) >>= λ ls. Gives (m ++ ls)) ≡ (a >>= λ j. b >>= λ ns. Gives (ms ++ (j ++ ns)))
          turned (Gives j) (Gives ns) w = ap Gives (sym (append_assoc m ks (j ++ ns)) ∙ ap (λ l. l ++ (j ++ ns)) w)
          turned (Gives j) (Faults f) w = refl
          turned (Gives j) Stuck w = refl
          turned (Faults f) b w = refl
          turned Stuck b w = refl
      by (Gives m) (Faults f) p q h more = absurd (cc h)
      by (Gives m) Stuck p q h more = absurd (cc h)
      by (Faults f) r p q h more = absurd (cc h)
      by Stuck r p q h more = absurd (cc h)

  pub first_none : matches_by go 0 [] ≡ Gives []
  first_none = refl

  pub one_more : (xs : List Candidate) (c : Candidate) (ms new : List Match) → matches_by go 0 xs ≡ Gives ms → go c ≡ Gives new → matches_by go 0 (xs ++ c ∷ []) ≡ Gives (ms ++ new)
  one_more xs c ms new e g = matches_then 0 xs c [] ms e ∙ ap (λ o. blaming (AtPlace (0 + length xs)) o >>= λ m. Gives (ms ++ (m ++ []))) g ∙ ap (λ l. Gives (ms ++ l)) (append-nil new)

  pub faulty : (xs : List Candidate) (c : Candidate) (rest : List Candidate) (ms : List Match) (w : Stop) → matches_by go 0 xs ≡ Gives ms → go c ≡ stopped w → matches_by go 0 (xs ++ c ∷ rest) ≡ stopped_at (length xs) w
  faulty xs c rest ms w e g = matches_then 0 xs c rest ms e ∙ ap (λ o. blaming (AtPlace (0 + length xs)) o >>= λ m. matches_by go (suc (0 + length xs)) rest >>= λ ns. Gives (ms ++ (m ++ ns))) g
      ∙ stops (0 + length xs) (λ m. matches_by go (suc (0 + length xs)) rest >>= λ ns. Gives (ms ++ (m ++ ns))) w
      ∙ (let z : 0 + length xs ≡ length xs = omega arith in ap (λ (n : ℕ). stopped_at n w) z)

-- ---- the same in terms of the definitions

module _ (clock : Calendar) (o : Over) (block : Block) (ends : Ends) (edge : Option ℕ) (s : State Reference) (shows : Shows o.frame s)
    (has : HasEnds o.schema o.plan o.frame.things block ends) (at : option_map Place edge ≡ edge_alias (view_walk block.walk)) where
  abbrev the_from : From Reference
  the_from = from (world_over clock o) s.names (view_block block)

  looks : (c : Candidate) → look_at (world_over clock o) s the_from c ≡ look_of clock (viewed o (bound_to ends edge c) o.frame.accums o.frame.accums)
  looks c = ap (λ l. sight (world_over clock o) (with_candidate the_from c s.names) l l) shows.slots
      ∙ ap (λ names. sight (world_over clock o) names (slots_are o.frame.accums) (slots_are o.frame.accums)) (sym (named_all ends edge the_from c s.names (has.each (accum_names o.plan) (tuples_are o.tuples) o.vertices o.edges.rows clock s.names shows.names) at))
      ∙ sym (look_over clock o s (bound_to ends edge c) o.frame.accums o.frame.accums shows)

  one_comes : (c : Candidate) → match_of (view_block block) s.slots c (look_at (world_over clock o) s the_from c) ≡ comes clock o block ends edge c
  one_comes c = ap₂ (λ slots look. match_of (view_block block) slots c look) shows.slots (looks c)

  all_come : (n : ℕ) (cs : List Candidate) → matches (world_over clock o) s (view_block block) the_from n cs ≡ matches_by (comes clock o block ends edge) n cs
  all_come n [] = refl
  all_come n (c ∷ cs) = ap₂ (λ g r. blaming (AtPlace n) g >>= λ m. r >>= λ ms. Gives (m ++ ms)) (one_comes c) (all_come (suc n) cs)

  pub block_comes : (cs : List Candidate) → AreCandidates o block cs → block_matches clock o block s ≡ matches_by (comes clock o block ends edge) 0 cs
  block_comes cs are = ap (matches (world_over clock o) s (view_block block) the_from 0) (sym (are.each clock s shows)) ∙ all_come 0 cs

-- ---- the candidates before a place

pub within_at : (n i : ℕ) (cs : List Candidate) (c : Candidate) → Rattle.std.specs.List.All (IsWithin n) cs → slice_get cs i ≡ Some c → IsWithin n c
within_at n i cs c h e = go i cs (recursion_from_All (IsWithin n) cs h) e
  where
    go : (i : ℕ) (cs : List Candidate) → Rattle.std.specs.List.AllByRecursion (IsWithin n) cs → slice_get cs i ≡ Some c → IsWithin n c
    go i [] r e = none_apart c e
    go zero (x ∷ cs) r e = subst (IsWithin n) (same_some e) r.0
    go (suc i) (x ∷ cs) r e = go i cs r.1 e

take_next : (n : ℕ) (xs : List Candidate) (c : Candidate) → slice_get xs n ≡ Some c → take (n + 1) xs ≡ take n xs ++ c ∷ []
take_next n [] c e = none_apart c e
take_next zero (x ∷ xs) c e = ap (λ y. y ∷ []) (same_some e)
take_next (suc n) (x ∷ xs) c e = (let z : suc n + 1 ≡ suc (n + 1) = omega arith in ap (λ (m : ℕ). take m (x ∷ xs)) z) ∙ ap (λ l. x ∷ l) (take_next n xs c e)

split_at : (n : ℕ) (xs : List Candidate) (c : Candidate) → slice_get xs n ≡ Some c → (xs ≡ take n xs ++ c ∷ drop (suc n) xs) × (length (take n xs) ≡ n)
split_at n [] c e = none_apart c e
split_at zero (x ∷ xs) c e = (ap (λ y. y ∷ xs) (same_some e), refl)
split_at (suc n) (x ∷ xs) c e = let r = split_at n xs c e in (ap (λ l. x ∷ l) r.0, ap suc r.1)

take_all : (n : ℕ) (xs : List Candidate) → length xs ≤ n → take n xs ≡ xs
take_all zero [] l = refl
take_all (suc n) [] l = refl
take_all zero (x ∷ xs) l = absurd (omega (arith, l))
take_all (suc n) (x ∷ xs) l = ap (λ r. x ∷ r) (take_all n xs (omega (arith, l)))

module _ (go : Candidate → Answer Wrong (List Match)) (cs : List Candidate) where
  pub go_first : (s : ℕ) → GoOn go cs s s []
  go_first s before h = h ∙ ap Gives (sym (append-nil before))

  pub go_next : (s p : ℕ) (c : Candidate) (ms m : List Match) → slice_get cs p ≡ Some c → GoOn go cs s p ms → go c ≡ Gives m → GoOn go cs s (p + 1) (ms ++ m)
  go_next s p c ms m at goes e before h = ap (matches_by go 0) (take_next p cs c at) ∙ one_more go (take p cs) c (before ++ ms) m (goes before h) e ∙ ap Gives (append_assoc before ms m)

  pub go_fault : (s p : ℕ) (c : Candidate) (ms : List Match) (w : Stop) → slice_get cs p ≡ Some c → GoOn go cs s p ms → go c ≡ stopped w → FaultAt go cs s p w
  go_fault s p c ms w at goes e before h = let r = split_at p cs c at in ap (matches_by go 0) r.0 ∙ faulty go (take p cs) c (drop (suc p) cs) (before ++ ms) w (goes before h) e ∙ ap (λ (n : ℕ). stopped_at n w) r.1

-- ---- a chunk

-- the candidates from one place to another are tried
pub record ChunkTo (go : Candidate → Answer Wrong (List Match)) (cs : List Candidate) (o : Over) (start end p : ℕ) (old now : MatchBuffer) : Type 0 where
  pub low : start ≤ p
  pub high : p ≤ end
  pub matched : List Match
  pub goes : GoOn go cs start p matched
  pub waits : Wait o matched now.batches now.inputs
  pub shaped : IsShaped (length o.vertices) now
  pub sources : Mark sources_of go cs start p old.sources now.sources
  pub targets : Mark targets_of go cs start p old.targets now.targets
  pub cover_sources : Cover sources_of go cs start p now.sources
  pub cover_targets : Cover targets_of go cs start p now.targets

none_waits : (o : Over) (found : MatchBuffer) → IsEmpty found → Wait o [] found.batches found.inputs
none_waits o found h = record {
  may = All-nil (MayTake o.frame.accums.slots);
  batch = [];
  waiting = h.batches;
  batched = ap (λ l. Rattle.std.proofs.Common.map Rattle.gq_exec_feed.specs.Taking.as_given (Rattle.gq_exec_contribute.specs.Scalars.as_inputs l)) h.inputs;
  within = All-nil (λ (m : Match). IsWithin (length o.vertices) m.candidate);
}

module _ (go : Candidate → Answer Wrong (List Match)) (cs : List Candidate) (o : Over) (start end : ℕ) where
  pub chunk_first : (old now : MatchBuffer) → start ≤ end → IsEmpty now → IsShaped (length o.vertices) now → now.sources ≡ old.sources → now.targets ≡ old.targets → ChunkTo go cs o start end start old now
  chunk_first old now l empty shaped sources targets = record {
    low = omega arith;
    high = l;
    matched = [];
    goes = go_first go cs start;
    waits = none_waits o now empty;
    shaped = shaped;
    sources = subst (λ w. Mark sources_of go cs start start old.sources w) (sym sources) (mark_first sources_of go cs start old.sources);
    targets = subst (λ w. Mark targets_of go cs start start old.targets w) (sym targets) (mark_first targets_of go cs start old.targets);
    cover_sources = cover_first sources_of go cs start now.sources;
    cover_targets = cover_first targets_of go cs start now.targets;
  }

  pub chunk_next : (p : ℕ) (c : Candidate) (old mid new : MatchBuffer) → p < end → slice_get cs p ≡ Some c → ChunkTo go cs o start end p old mid → Tried o (go c) mid new None → IsShaped (length o.vertices) new → ChunkTo go cs o start end (p + 1) old new
  chunk_next p c old mid new l at h tried shaped = let low = h.low in record {
    low = omega (arith, low);
    high = omega (arith, l);
    matched = h.matched ++ tried.0;
    goes = go_next go cs start p c h.matched tried.0 at h.goes tried.1;
    waits = tried.2 h.matched h.waits;
    shaped = shaped;
    sources = mark_next sources_of go cs start p c tried.0 old.sources mid.sources new.sources h.low at tried.1 h.sources tried.3;
    targets = mark_next targets_of go cs start p c tried.0 old.targets mid.targets new.targets h.low at tried.1 h.targets tried.4;
    cover_sources = cover_next sources_of go cs start p c tried.0 mid.sources new.sources at tried.1 h.cover_sources tried.3;
    cover_targets = cover_next targets_of go cs start p c tried.0 mid.targets new.targets at tried.1 h.cover_targets tried.4;
  }

  pub chunk_fault : (p : ℕ) (c : Candidate) (w : Stop) (old mid new : MatchBuffer) → slice_get cs p ≡ Some c → ChunkTo go cs o start end p old mid → Tried o (go c) mid new (Some w) → IsShaped (length o.vertices) new → GoneThrough go cs o start end old new (Some (p, w))
  chunk_fault p c w old mid new at h tried shaped = record {
    came = go_fault go cs start p c h.matched w at h.goes tried.0;
    shaped = shaped;
    sources = mark_wider sources_of go cs start p end old.sources mid.sources new.sources h.high h.sources tried.1;
    targets = mark_wider targets_of go cs start p end old.targets mid.targets new.targets h.high h.targets tried.2;
    cover_sources = tt;
    cover_targets = tt;
  }

  pub chunk_done : (p : ℕ) (old new : MatchBuffer) → end ≤ p → ChunkTo go cs o start end p old new → GoneThrough go cs o start end old new None
  chunk_done p old new l h = let high = h.high in let e : p ≡ end = omega (arith, l, high) in record {
    came = (h.matched, subst (λ (q : ℕ). GoOn go cs start q h.matched) e h.goes, h.waits);
    shaped = h.shaped;
    sources = subst (λ (q : ℕ). Mark sources_of go cs start q old.sources new.sources) e h.sources;
    targets = subst (λ (q : ℕ). Mark targets_of go cs start q old.targets new.targets) e h.targets;
    cover_sources = subst (λ (q : ℕ). Cover sources_of go cs start q new.sources) e h.cover_sources;
    cover_targets = subst (λ (q : ℕ). Cover targets_of go cs start q new.targets) e h.cover_targets;
  }

-- ---- a run

-- before the first candidate
pub begun : (o : Over) (r : BlockProgress) (vertices : ℕ) → r.at ≡ 0 → AreFedTo o [] r.accums r.fed → IsOpened vertices r.found → vertices ≡ length o.vertices → length o.vertices ≤ 4194304 → IsBegun o r
begun o r vertices at fed opened e few = record {
  each = λ clock w. record {
    matched = [];
    ran = ap (λ (n : ℕ). matches_by (come clock o w) 0 (take n w.candidates)) at ∙ none (come clock o w) w.candidates;
    fed = fed;
    empty = opened.empty;
    shaped = subst (λ (n : ℕ). IsShaped n r.found) e (opened.shaped (let l = few in omega (arith, e, l)));
    sources = subst (λ (n : ℕ). AreMarked sources_of (come clock o w) w.candidates n r.found.sources) (sym at) (marked_first sources_of (come clock o w) w.candidates r.found.sources opened.sources);
    targets = subst (λ (n : ℕ). AreMarked targets_of (come clock o w) w.candidates n r.found.targets) (sym at) (marked_first targets_of (come clock o w) w.candidates r.found.targets opened.targets);
  };
}
  where
    none : (go : Candidate → Answer Wrong (List Match)) (cs : List Candidate) → matches_by go 0 (take 0 cs) ≡ Gives []
    none go [] = refl
    none go (c ∷ cs) = refl

module _ (clock : Calendar) (o : Over) (w : Work) (old new : BlockProgress) where
  -- a chunk on this thread
  pub chunk_steps : (end : ℕ) (mid : MatchBuffer) (given : List (ℕ × ScalarInput)) → HasRun clock o w old → GoneThrough (come clock o w) w.candidates o old.at end old.found mid None → given ≡ mid.inputs → FedFrom old.accums new.accums old.fed mid.batches given new.fed → old.at < end → new.at ≡ end
      → new.found.batches ≡ replicate (length mid.batches) [] → new.found.inputs ≡ take 0 mid.inputs → new.found.sources ≡ mid.sources → new.found.targets ≡ mid.targets → Steps clock o w old new None
  chunk_steps end mid given h gone listed took l at batches ints sources targets = (
    record {
      matched = h.matched ++ gone.came.0;
      ran = ap (λ (n : ℕ). matches_by (come clock o w) 0 (take n w.candidates)) at ∙ gone.came.1 h.matched h.ran;
      fed = fed.each o h.matched gone.came.0 h.fed gone.came.2;
      empty = record { batches = emptied; inputs = ints ∙ none mid.inputs };
      shaped = record {
        one = ap length emptied;
        sources = subst (λ w. length o.vertices ≤ length w * 64) (sym sources) gone.shaped.sources;
        targets = subst (λ w. length o.vertices ≤ length w * 64) (sym targets) gone.shaped.targets;
        short = record { sources = subst (λ w. length w ≤ 67108863) (sym sources) gone.shaped.short.sources; targets = subst (λ w. length w ≤ 67108863) (sym targets) gone.shaped.short.targets };
      };
      sources = subst2 sources_of (sym at) (sym sources) (marked_more sources_of (come clock o w) w.candidates old.at end old.found.sources mid.sources (omega (arith, l)) h.sources gone.sources gone.cover_sources);
      targets = subst2 targets_of (sym at) (sym targets) (marked_more targets_of (come clock o w) w.candidates old.at end old.found.targets mid.targets (omega (arith, l)) h.targets gone.targets gone.cover_targets);
    },
    omega (arith, l, at),
  )
    where
      fed : FedFrom old.accums new.accums old.fed mid.batches mid.inputs new.fed
      fed = subst (λ x. FedFrom old.accums new.accums old.fed mid.batches x new.fed) listed took

      subst2 : (f : List Match → List ℕ) {a b : ℕ} {u v : List ℕ} → a ≡ b → u ≡ v → AreMarked f (come clock o w) w.candidates a u → AreMarked f (come clock o w) w.candidates b v
      subst2 f {a} {b} {u} {v} p q x = subst (λ (n : ℕ). AreMarked f (come clock o w) w.candidates n v) p (subst (λ l. AreMarked f (come clock o w) w.candidates a l) q x)

      emptied : new.found.batches ≡ [] ∷ []
      emptied = batches ∙ ap (λ (n : ℕ). replicate n []) gone.shaped.one

      none : (xs : List (ℕ × ScalarInput)) → take 0 xs ≡ []
      none [] = refl
      none (x ∷ xs) = refl

  pub chunk_faults : (end : ℕ) (mid : MatchBuffer) (f : ℕ × Stop) → HasRun clock o w old → GoneThrough (come clock o w) w.candidates o old.at end old.found mid (Some f) → Steps clock o w old new (Some f)
  chunk_faults end mid f h gone = gone.came h.matched h.ran

-- ---- all candidates

module _ (clock : Calendar) (o : Over) (w : Work) (is : IsWork o w) where
  pub run_faults : (old new : BlockProgress) (f : ℕ × Stop) (n : ℕ) (x : Stop) → f.0 ≡ n → f.1 ≡ x → Steps clock o w old new (Some f) → RanTo clock o w.block.now (ran.Fault n x)
  run_faults old new f n x e d h s shows = block_comes clock o w.block.now w.leaves.ends.now w.leaves.edge s shows is.ends is.edge w.candidates is.candidates ∙ h ∙ ap₂ (λ (k : ℕ) (y : Stop). stopped_at k y) e d

  pub run_done : (r : BlockProgress) → length w.candidates ≤ r.at → HasRun clock o w r → RanTo clock o w.block.now (ran.Done r)
  run_done r l h = (
    h.matched,
    (λ s shows. block_comes clock o w.block.now w.leaves.ends.now w.leaves.edge s shows is.ends is.edge w.candidates is.candidates ∙ all),
    record {
      fed = h.fed;
      sources = sources_over (come clock o w) w.candidates h.matched r.found.sources r.at l all h.sources;
      targets = targets_over (come clock o w) w.candidates h.matched r.found.targets r.at l all h.targets;
    },
    h.shaped.short,
  )
    where
      all : matches_by (come clock o w) 0 w.candidates ≡ Gives h.matched
      all = ap (matches_by (come clock o w) 0) (sym (take_all r.at w.candidates l)) ∙ h.ran

-- ---- the end

pub ends_memory : (clock : Calendar) (o : Over) (block : Block) → Answers clock o block (Err fault.OutOfMemory)
ends_memory clock o block = record { each = λ s shows. tt }

pub ends_fault : (clock : Calendar) (o : Over) (block : Block) (n : ℕ) (w : Stop) (e : BlockFault) → e ≡ stop_fault n w → RanTo clock o block (ran.Fault n w) → Answers clock o block (Err e)
ends_fault clock o block n (stop.Wrong w) e is h = subst (λ e. Answers clock o block (Err e)) (sym is) (record { each = λ s shows. ap (λ a. a >>= after_matches s.slots) (h s shows) })
ends_fault clock o block n stop.Stuck e is h = subst (λ e. Answers clock o block (Err e)) (sym is) (record { each = λ s shows. ap (λ a. a >>= after_matches s.slots) (h s shows) })

pub ends_judged : (clock : Calendar) (o : Over) (block : Block) (r : BlockProgress) (result : Result After BlockFault) → RanTo clock o block (ran.Done r) → IsJudged r result → Answers clock o block result
ends_judged clock o block r result h judged = record {
  each = λ s shows.
      subst (λ a. Answered after_is a result) (sym (ap (λ a. a >>= after_matches s.slots) (h.1 s shows) ∙ ap (λ slots. after_matches slots h.0) shows.slots)) (judged.answered o h.0 h.2);
}

pub left_judged : (clock : Calendar) (o : Over) (block : Block) (r : BlockProgress) (result : Result After BlockFault) → RanTo clock o block (ran.Done r) → IsJudged r result → Rattle.std.specs.Prelude.IfOk result (Leaves o)
left_judged clock o block r (Ok a) h judged = judged.left o h.0 h.2
left_judged clock o block r (Err e) h judged = tt

pub short_judged : (clock : Calendar) (o : Over) (block : Block) (r : BlockProgress) → RanTo clock o block (ran.Done r) → Rattle.gq_workers.specs.Running.IsShort r.found
short_judged clock o block r h = h.3

pub ruleset end_laws = (ends_memory, ends_fault, ends_judged, left_judged, short_judged)
