-- RoundLemmas: combining the outputs of several workers.
use Rattle.std.proofs.Common.{◌≡◌, ℕ, zero, suc, ◌+◌, ◌*◌, ◌/◌, ◌%◌, ◌^◌, ◌<◌, ◌≤◌, ◌==◌, ◌||◌, ◌⊎◌, inl, inr, not, max, true, false, List, [], ◌∷◌, ◌++◌, take, set, get_or, length, slice_index, bit_and, bit_or, Option, Some, None, Result, Ok, Err, IfOk, refl, sym, ap, ap₂, ◌∙◌, subst, arith}
use Rattle.std.specs.List.{All}
use Rattle.std.specs.Int.{bit_at}
use Rattle.std.proofs.lemmas.List.{take_all, get_or_past, get_or-set_same, get_or-set_other}
use Rattle.std.proofs.lemmas.List.Elements.{All-nil, All-push, All-get_or, All-weaker, All-more}
use Rattle.std.proofs.lemmas.Nat.Bits.{and_pow, bit_at_or, bit_at-lt}
use Rattle.std.proofs.lemmas.Nat.{pow_pos, or_disjoint}
use Rattle.std.specs.Int.Bits.{and_zero_r}
use Rattle.std.proofs.lemmas.Bool.Decides.{nat_tests}
use Rattle.std.proofs.lemmas.Option.{get_or_from_slice_get, slice_get_within}
use Rattle.gq_base.specs.declared.memory.OutOfMemory.{OutOfMemory}
use Rattle.gq_value.specs.declared.kind.Input.{Input}
use Rattle.gq_graph.specs.declared.rows.Candidate.{Candidate}
use Rattle.gq_value.specs.declared.value.Wrong.{Wrong}
use Rattle.gq_exec_source.specs.Marks.{is_marked}
use Rattle.gq_rules_meaning.specs.Answers.{Answer}
use Rattle.gq_rules_meaning.specs.Blocks.{Match}
use Rattle.gq_rules_meaning.specs.Calendars.{Calendar}
use Rattle.gq_eval_context.specs.Viewed.{Over}
use Rattle.gq_workers.specs.declared.found.MatchBuffer.{MatchBuffer}
use Rattle.gq_workers.specs.declared.run.BlockProgress.{BlockProgress}
use Rattle.gq_workers.specs.declared.rounds.Work.{Work}
use Rattle.gq_workers.specs.declared.rounds.ChunkOutput.{ChunkOutput}
use Rattle.gq_workers.specs.declared.rounds.WorkerOutput.{WorkerOutput}
use Rattle.gq_workers.specs.declared.rounds.RoundOutput.{RoundOutput}
use Rattle.gq_workers.specs.Running.{come, matches_by, sources_of, targets_of, Wait, FedFrom, IsAtEnd, Cover, CoverWhole, Mark, AreMarked, IsEmpty, IsOpened, IsShaped, Came, GoneThrough, HasRun}
use Rattle.gq_workers.specs.Rounds.{IsLeft, Only, IsPart, LeavesChunk, Fits, AllFit, Joins, MarksPart, AreLefts, MarksParts, StandsIn, InRound, Feeds, FeedsLeft, FeedsParts, IsAhead, StandsOr, FeedsRound, GoesOn}
use Rattle.gq_workers.proofs.FoundLemmas.{shaped_still}
use Rattle.gq_workers.proofs.MarkLemmas.{below_or_not, true_or_false, or_first, or_second, of_or, not_both}
use Rattle.gq_exec_contribute.specs.declared.scalars.ScalarInput.{ScalarInput}
use Rattle.gq_exec_contribute.specs.declared.candidate.Stop.{Stop}

-- ---- the output of a chunk

module _ (clock : Calendar) (o : Over) (w : Work) (start end : ℕ) where
  pub leaves_chunk : (fault : Option (ℕ × Stop)) (batches : List (List (ℕ × Input))) (ints : List (ℕ × ScalarInput)) (old mid new : MatchBuffer) → GoneThrough (come clock o w) w.candidates o start end old mid fault → batches ≡ mid.batches → ints ≡ mid.inputs
      → new.batches ≡ [] ∷ [] → new.inputs ≡ [] → new.sources ≡ mid.sources → new.targets ≡ mid.targets → LeavesChunk clock o w start end old new (record { start = start; end = end; batches = batches; inputs = ints; fault = fault })
  leaves_chunk fault batches ints old mid new gone b i emptied none sources targets = record {
    left = record {
      came = subst (λ l. Came (come clock o w) w.candidates o start end l ints fault) (sym b) (subst (λ l. Came (come clock o w) w.candidates o start end mid.batches l fault) (sym i) gone.came);
      sources = subst (λ l. CoverWhole sources_of (come clock o w) w.candidates start end l fault) (sym sources) gone.cover_sources;
      targets = subst (λ l. CoverWhole targets_of (come clock o w) w.candidates start end l fault) (sym targets) gone.cover_targets;
    };
    empty = record { batches = emptied; inputs = none };
    shaped = shaped_still (length o.vertices) mid new gone.shaped (ap length emptied ∙ sym gone.shaped.one) (ap length sources) (ap length targets);
    sources = subst (λ l. Mark sources_of (come clock o w) w.candidates start end old.sources l) (sym sources) gone.sources;
    targets = subst (λ l. Mark targets_of (come clock o w) w.candidates start end old.targets l) (sym targets) gone.targets;
  }

-- ---- the output of a worker

abbrev pub Under : List ℕ → List ℕ → Type 0
Under old new = (vertex : ℕ) → is_marked old vertex ≡ true → is_marked new vertex ≡ true

whole_kept : (f : List Match → List ℕ) (go : Candidate → Answer Wrong (List Match)) (cs : List Candidate) (start end : ℕ) (old new : List ℕ) (fault : Option (ℕ × Stop)) → Under old new → CoverWhole f go cs start end old fault → CoverWhole f go cs start end new fault
whole_kept f go cs start end old new None k h = λ p v low high e. k v (h p v low high e)
whole_kept f go cs start end old new (Some x) k h = tt

module _ (clock : Calendar) (o : Over) (w : Work) where
  pub left_kept : (s t s' t' : List ℕ) → Under s s' → Under t t' → (l : ChunkOutput) → IsLeft clock o w s t l → IsLeft clock o w s' t' l
  left_kept s t s' t' a b l h = record {
    came = h.came;
    sources = whole_kept sources_of (come clock o w) w.candidates l.start l.end s s' l.fault a h.sources;
    targets = whole_kept targets_of (come clock o w) w.candidates l.start l.end t t' l.fault b h.targets;
  }

  pub record PartTo (first last : ℕ) (lefts : List ChunkOutput) (found : MatchBuffer) : Type 0 where
    pub left : All (IsLeft clock o w found.sources found.targets) lefts
    pub sources : Only sources_of clock o w first last found.sources
    pub targets : Only targets_of clock o w first last found.targets
    pub empty : IsEmpty found
    pub shaped : IsShaped (length o.vertices) found

  pub part_first : (first last vertices : ℕ) (lefts : List ChunkOutput) (found : MatchBuffer) → lefts ≡ [] → IsOpened vertices found → vertices ≡ length o.vertices → length o.vertices ≤ 4194304 → PartTo first last lefts found
  part_first first last vertices lefts found none opened e few = record {
    left = subst (All (IsLeft clock o w found.sources found.targets)) (sym none) (All-nil (IsLeft clock o w found.sources found.targets));
    sources = λ v h. not_both (is_marked found.sources v) h (opened.sources v);
    targets = λ v h. not_both (is_marked found.targets v) h (opened.targets v);
    empty = opened.empty;
    shaped = subst (λ (n : ℕ). IsShaped n found) e (opened.shaped (let l = few in omega (arith, e, l)));
  }

  only_more : (f : List Match → List ℕ) (first last start end : ℕ) (old new : List ℕ) → first ≤ start → end ≤ last → Only f clock o w first last old → Mark f (come clock o w) w.candidates start end old new → Only f clock o w first last new
  only_more f first last start end old new a b h step v t = by (true_or_false (is_marked old v))
    where
      by : (is_marked old v ≡ true) ⊎ (is_marked old v ≡ false) → (place : ℕ) × (first ≤ place) × (place < last) × IsAtEnd f (come clock o w) w.candidates place v
      by (inl x) = h v x
      by (inr x) = let r = step.only v t x in let low = r.1 in let high = r.2 in (r.0, omega (arith, a, low), omega (arith, b, high), r.3)

  pub part_next : (first last start end : ℕ) (lefts now : List ChunkOutput) (l : ChunkOutput) (old new : MatchBuffer) → first ≤ start → end ≤ last → now ≡ lefts ++ l ∷ [] → PartTo first last lefts old → LeavesChunk clock o w start end old new l → PartTo first last now new
  part_next first last start end lefts now l old new a b push h leaves = record {
    left = subst (All (IsLeft clock o w new.sources new.targets)) (sym push) (All-push (IsLeft clock o w new.sources new.targets) lefts l
        (All-weaker (IsLeft clock o w old.sources old.targets) (IsLeft clock o w new.sources new.targets) (left_kept old.sources old.targets new.sources new.targets leaves.sources.kept leaves.targets.kept) lefts h.left) leaves.left);
    sources = only_more sources_of first last start end old.sources new.sources a b h.sources leaves.sources;
    targets = only_more targets_of first last start end old.targets new.targets a b h.targets leaves.targets;
    empty = leaves.empty;
    shaped = leaves.shaped;
  }

  pub part_done : (first last : ℕ) (lefts : List ChunkOutput) (found : MatchBuffer) → PartTo first last lefts found → IsPart clock o w first last (record { lefts = lefts; sources = found.sources; targets = found.targets })
  part_done first last lefts found h = record { lefts = h.left; sources = h.sources; targets = h.targets }

-- ---- words of marks

-- the first `i` words are joined
pub record JoinTo (old other : List ℕ) (i : ℕ) (now : List ℕ) : Type 0 where
  pub len : length now ≡ length old
  pub done : (k : ℕ) → k < i → slice_index now k ≡ bit_or (slice_index old k) (slice_index other k)
  pub rest : (k : ℕ) → i ≤ k → slice_index now k ≡ slice_index old k

pub join_first : (old other : List ℕ) → JoinTo old other 0 old
join_first old other = record { len = refl; done = λ k l. absurd (omega (arith, l)); rest = λ k l. refl }

set_long : {A : Type 0} (xs : List A) (i : ℕ) (a : A) → length (set xs i a) ≡ length xs
set_long [] zero a = refl
set_long [] (suc i) a = refl
set_long (x ∷ xs) zero a = refl
set_long (x ∷ xs) (suc i) a = ap suc (set_long xs i a)

pub join_next : (old other : List ℕ) (i x y : ℕ) (was now : List ℕ) → i < length was → x ≡ slice_index was i → y ≡ slice_index other i → now ≡ set was i (bit_or x y) → JoinTo old other i was → JoinTo old other (i + 1) now
join_next old other i x y was now l a b e h = record {
  len = ap length e ∙ set_long was i (bit_or x y) ∙ h.len;
  done = λ k low. ap (λ w. slice_index w k) e ∙ by k (below_or_not k i) low;
  rest = λ k low. ap (λ w. slice_index w k) e ∙ get_or-set_other was i k (bit_or x y) 0 (λ s. absurd (omega (arith, low, s))) ∙ h.rest k (omega (arith, low));
}
  where
    by : (k : ℕ) → (k < i) ⊎ (i ≤ k) → k < i + 1 → slice_index (set was i (bit_or x y)) k ≡ bit_or (slice_index old k) (slice_index other k)
    by k (inl low) high = get_or-set_other was i k (bit_or x y) 0 (λ s. absurd (omega (arith, low, s))) ∙ h.done k low
    by k (inr low) high = let same : k ≡ i = omega (arith, low, high) in subst (λ (n : ℕ). slice_index (set was i (bit_or x y)) n ≡ bit_or (slice_index old n) (slice_index other n)) (sym same)
        (get_or-set_same was i (bit_or x y) 0 l ∙ ap₂ bit_or (a ∙ h.rest i (omega arith)) b)

not_zero : (n : ℕ) → 0 < n → not (n == 0) ≡ true
not_zero n h = grind (arith, nat_tests)

-- a bit is tested
tested : (n k : ℕ) → not (bit_and n (2 ^ k) == 0) ≡ not (bit_at n k == 0)
tested n k = ap (λ x. not (x == 0)) (and_pow n k) ∙ by (bit_at n k) (bit_at-lt n k) (2 ^ k) (pow_pos k)
  where
    by : (b : ℕ) → b < 2 → (p : ℕ) → 0 < p → not (b * p == 0) ≡ not (b == 0)
    by zero l p s = let e : 0 * p ≡ 0 = omega arith in ap (λ x. not (x == 0)) e
    by (suc zero) l p s = let e : 1 * p ≡ p = omega arith in ap (λ x. not (x == 0)) e ∙ not_zero p s
    by (suc (suc b)) l p s = absurd (omega (arith, l))

most : (x y : ℕ) → not (max x y == 0) ≡ (not (y == 0) || not (x == 0))
most zero zero = refl
most zero (suc y) = not_zero (max 0 (suc y)) (omega arith) ∙ sym (ap (λ b. b || not (0 == 0)) (not_zero (suc y) (omega arith)))
most (suc x) zero = not_zero (max (suc x) 0) (omega arith) ∙ sym (not_zero (suc x) (omega arith))
most (suc x) (suc y) = not_zero (max (suc x) (suc y)) (omega arith) ∙ sym (ap (λ b. b || not (suc x == 0)) (not_zero (suc y) (omega arith)))

or_zero : (x : ℕ) → bit_or x 0 ≡ x
or_zero x = let e = or_disjoint x 0 (and_zero_r x) in e ∙ omega arith

pub joined : (old other : List ℕ) (i : ℕ) (now : List ℕ) → length other ≤ i → JoinTo old other i now → Joins old other now
joined old other i now l h = record { len = h.len; marks = marks }
  where
    word : (k : ℕ) → (k < i) ⊎ (i ≤ k) → slice_index now k ≡ bit_or (slice_index old k) (slice_index other k)
    word k (inl low) = h.done k low
    word k (inr low) = h.rest k low ∙ sym (ap (bit_or (slice_index old k)) (get_or_past other k 0 (omega (arith, l, low))) ∙ or_zero (slice_index old k))

    marks : (v : ℕ) → is_marked now v ≡ (is_marked other v || is_marked old v)
    marks v = let a = slice_index old (v / 64) in let b = slice_index other (v / 64) in
        ap (λ x. not (bit_and x (2 ^ (v % 64)) == 0)) (word (v / 64) (below_or_not (v / 64) i)) ∙ tested (bit_or a b) (v % 64) ∙ ap (λ x. not (x == 0)) (bit_at_or a b (v % 64))
        ∙ most (bit_at a (v % 64)) (bit_at b (v % 64)) ∙ ap₂ (λ x y. x || y) (sym (tested b (v % 64))) (sym (tested a (v % 64)))

pub ruleset join_laws = (join_first, joined)

-- ---- parts that fit

pub fits_here : (p : WorkerOutput) (r : Result WorkerOutput OutOfMemory) (found : MatchBuffer) → r ≡ Ok p → length p.sources ≤ length found.sources → length p.targets ≤ length found.targets → IfOk r (Fits found)
fits_here p r found is sources targets = subst (λ x. IfOk x (Fits found)) (sym is) (record { sources = sources; targets = targets })

pub ruleset fits_laws = (fits_here)

pub fit_first : (parts : List (Result WorkerOutput OutOfMemory)) (found : MatchBuffer) → AllFit (take 0 parts) found
fit_first [] found = All-nil (λ part. IfOk part (Fits found))
fit_first (p ∷ ps) found = All-nil (λ part. IfOk part (Fits found))

pub fit_next : (parts : List (Result WorkerOutput OutOfMemory)) (i : ℕ) (r : Result WorkerOutput OutOfMemory) (found : MatchBuffer) → i < length parts → r ≡ get_or parts i r → IfOk r (Fits found) → AllFit (take i parts) found → AllFit (take (i + 1) parts) found
fit_next parts i r found l at fits h = All-more (λ part. IfOk part (Fits found)) parts i r l h (subst (λ x. IfOk x (Fits found)) at fits)

pub fit_done : (parts : List (Result WorkerOutput OutOfMemory)) (i : ℕ) (found : MatchBuffer) → length parts ≤ i → AllFit (take i parts) found → AllFit parts found
fit_done parts i found l h = subst (λ ps. AllFit ps found) (take_all i parts l) h

pub ruleset fit_laws = (fit_first, fit_done)

-- ---- all parts

abbrev AreParts : Calendar → Over → Work → ℕ → ℕ → List (Result WorkerOutput OutOfMemory) → Type 0
AreParts clock o w first last parts = All (λ part. IfOk part (IsPart clock o w first last)) parts

-- the marks of the first `i` parts are set
pub record MarksTo (parts : List (Result WorkerOutput OutOfMemory)) (i : ℕ) (old now : MatchBuffer) : Type 0 where
  pub lefts : (clock : Calendar) (o : Over) (w : Work) (first last : ℕ) → All (λ part. IfOk part (IsPart clock o w first last)) parts → AreLefts clock o w now.sources now.targets (take i parts)
  pub sources : (clock : Calendar) (o : Over) (w : Work) (first last : ℕ) → All (λ part. IfOk part (IsPart clock o w first last)) parts → Mark sources_of (come clock o w) w.candidates first last old.sources now.sources
  pub targets : (clock : Calendar) (o : Over) (w : Work) (first last : ℕ) → All (λ part. IfOk part (IsPart clock o w first last)) parts → Mark targets_of (come clock o w) w.candidates first last old.targets now.targets
  pub shaped : (vertices : ℕ) → IsShaped vertices old → IsShaped vertices now
  pub empty : IsEmpty old → IsEmpty now
  pub long_sources : length now.sources ≡ length old.sources
  pub long_targets : length now.targets ≡ length old.targets

same_mark : (f : List Match → List ℕ) (go : Candidate → Answer Wrong (List Match)) (cs : List Candidate) (first last : ℕ) (words : List ℕ) → Mark f go cs first last words words
same_mark f go cs first last words = record { kept = λ v h. h; only = λ v h n. not_both (is_marked words v) h n }

pub marks_first : (parts : List (Result WorkerOutput OutOfMemory)) (old : MatchBuffer) → MarksTo parts 0 old old
marks_first parts old = record {
  lefts = λ clock o w first last h. none clock o w parts;
  sources = λ clock o w first last h. same_mark sources_of (come clock o w) w.candidates first last old.sources;
  targets = λ clock o w first last h. same_mark targets_of (come clock o w) w.candidates first last old.targets;
  shaped = λ n s. s;
  empty = λ e. e;
  long_sources = refl;
  long_targets = refl;
}
  where
    none : (clock : Calendar) (o : Over) (w : Work) (ps : List (Result WorkerOutput OutOfMemory)) → AreLefts clock o w old.sources old.targets (take 0 ps)
    none clock o w [] = All-nil (λ part. IfOk part (λ p. All (IsLeft clock o w old.sources old.targets) p.lefts))
    none clock o w (p ∷ ps) = All-nil (λ part. IfOk part (λ p. All (IsLeft clock o w old.sources old.targets) p.lefts))

under_old : (old other new : List ℕ) → Joins old other new → Under old new
under_old old other new h v t = h.marks v ∙ or_second (is_marked other v) (is_marked old v) t

under_other : (old other new : List ℕ) → Joins old other new → Under other new
under_other old other new h v t = h.marks v ∙ or_first (is_marked other v) (is_marked old v) t

mark_joined : (f : List Match → List ℕ) (clock : Calendar) (o : Over) (w : Work) (first last : ℕ) (old mid other new : List ℕ) → Only f clock o w first last other → Mark f (come clock o w) w.candidates first last old mid → Joins mid other new → Mark f (come clock o w) w.candidates first last old new
mark_joined f clock o w first last old mid other new only h join = record {
  kept = λ v t. under_old mid other new join v (h.kept v t);
  only = λ v t n. by v t n (true_or_false (is_marked mid v));
}
  where
    by : (v : ℕ) → is_marked new v ≡ true → is_marked old v ≡ false → (is_marked mid v ≡ true) ⊎ (is_marked mid v ≡ false) → (place : ℕ) × (first ≤ place) × (place < last) × IsAtEnd f (come clock o w) w.candidates place v
    by v t n (inl x) = h.only v x n
    by v t n (inr x) = only v (of_or (is_marked other v) (is_marked mid v) (sym (join.marks v) ∙ t) x)

lefts_kept : (clock : Calendar) (o : Over) (w : Work) (s t s' t' : List ℕ) → Under s s' → Under t t' → (r : Result WorkerOutput OutOfMemory) → IfOk r (λ p. All (IsLeft clock o w s t) p.lefts) → IfOk r (λ p. All (IsLeft clock o w s' t') p.lefts)
lefts_kept clock o w s t s' t' a b (Ok p) h = All-weaker (IsLeft clock o w s t) (IsLeft clock o w s' t') (left_kept clock o w s t s' t' a b) p.lefts h
lefts_kept clock o w s t s' t' a b (Err e) h = tt

pub marks_next : (parts : List (Result WorkerOutput OutOfMemory)) (i : ℕ) (r : Result WorkerOutput OutOfMemory) (p : WorkerOutput) (old mid new : MatchBuffer) → i < length parts → r ≡ get_or parts i r → r ≡ Ok p → MarksTo parts i old mid → MarksPart p mid new → MarksTo parts (i + 1) old new
marks_next parts i r p old mid new l at is h step = record {
  lefts = λ clock o w first last are. All-more (λ part. IfOk part (λ q. All (IsLeft clock o w new.sources new.targets) q.lefts)) parts i r l
      (All-weaker (λ part. IfOk part (λ q. All (IsLeft clock o w mid.sources mid.targets) q.lefts)) (λ part. IfOk part (λ q. All (IsLeft clock o w new.sources new.targets) q.lefts))
      (lefts_kept clock o w mid.sources mid.targets new.sources new.targets (under_old mid.sources p.sources new.sources step.sources) (under_old mid.targets p.targets new.targets step.targets)) (take i parts) (h.lefts clock o w first last are))
      (subst (λ x. IfOk x (λ q. All (IsLeft clock o w new.sources new.targets) q.lefts)) (sym is ∙ at)
      (All-weaker (IsLeft clock o w p.sources p.targets) (IsLeft clock o w new.sources new.targets)
      (left_kept clock o w p.sources p.targets new.sources new.targets (under_other mid.sources p.sources new.sources step.sources) (under_other mid.targets p.targets new.targets step.targets)) p.lefts (part clock o w first last are).lefts));
  sources = λ clock o w first last are. mark_joined sources_of clock o w first last old.sources mid.sources p.sources new.sources (part clock o w first last are).sources (h.sources clock o w first last are) step.sources;
  targets = λ clock o w first last are. mark_joined targets_of clock o w first last old.targets mid.targets p.targets new.targets (part clock o w first last are).targets (h.targets clock o w first last are) step.targets;
  shaped = λ n s. shaped_still n mid new (h.shaped n s) (ap length step.batches) step.sources.len step.targets.len;
  empty = λ e. let m = h.empty e in record { batches = step.batches ∙ m.batches; inputs = step.inputs ∙ m.inputs };
  long_sources = step.sources.len ∙ h.long_sources;
  long_targets = step.targets.len ∙ h.long_targets;
}
  where
    part : (clock : Calendar) (o : Over) (w : Work) (first last : ℕ) → All (λ part. IfOk part (IsPart clock o w first last)) parts → IsPart clock o w first last p
    part clock o w first last are = subst (λ x. IfOk x (IsPart clock o w first last)) (sym at ∙ is) (All-get_or (λ part. IfOk part (IsPart clock o w first last)) parts i r l are)

-- marking doesn't change the number of words, so the next part fits as before
pub fits_still : (parts : List (Result WorkerOutput OutOfMemory)) (i : ℕ) (r : Result WorkerOutput OutOfMemory) (p : WorkerOutput) (old mid : MatchBuffer) → i < length parts → r ≡ get_or parts i r → r ≡ Ok p → AllFit parts old → MarksTo parts i old mid → Fits mid p
fits_still parts i r p old mid l at is all h = let f : Fits old p = subst (λ x. IfOk x (Fits old)) (sym at ∙ is) (All-get_or (λ part. IfOk part (Fits old)) parts i r l all) in record {
  sources = subst (λ n. length p.sources ≤ n) (sym h.long_sources) f.sources;
  targets = subst (λ n. length p.targets ≤ n) (sym h.long_targets) f.targets;
}

pub marks_done : (parts : List (Result WorkerOutput OutOfMemory)) (i : ℕ) (old new : MatchBuffer) → length parts ≤ i → MarksTo parts i old new → MarksParts parts old new
marks_done parts i old new l h = record {
  lefts = λ clock o w first last are. subst (AreLefts clock o w new.sources new.targets) (take_all i parts l) (h.lefts clock o w first last are);
  sources = h.sources;
  targets = h.targets;
  shaped = h.shaped;
  empty = h.empty;
}

pub ruleset marks_laws = (marks_first, marks_done)

-- ---- feeding the output

pub left_fed : (l : ChunkOutput) (old new : BlockProgress) (ints : List (ℕ × ScalarInput)) → l.start ≡ old.at → l.fault ≡ None → ints ≡ l.inputs → FedFrom old.accums new.accums old.fed l.batches ints new.fed → new.at ≡ l.end → new.found ≡ old.found → FeedsLeft l old new None
left_fed l old new ints start fault listed took end same = record {
  each = λ clock o w h left.
      let came : Came (come clock o w) w.candidates o l.start l.end l.batches l.inputs None = subst (Came (come clock o w) w.candidates o l.start l.end l.batches l.inputs) fault left.came in (
        record {
          matched = h.matched ++ came.0;
          ran = subst (λ (n : ℕ). Rattle.gq_workers.specs.Running.MatchesTo (come clock o w) w.candidates n (h.matched ++ came.0)) (sym end)
              (came.1 h.matched (subst (λ (n : ℕ). Rattle.gq_workers.specs.Running.MatchesTo (come clock o w) w.candidates n h.matched) (sym start) h.ran));
          fed = fed.each o h.matched came.0 h.fed came.2;
          sources = subst (λ (n : ℕ). Cover sources_of (come clock o w) w.candidates 0 n new.found.sources) (sym end) (subst (λ (f : MatchBuffer). Cover sources_of (come clock o w) w.candidates 0 l.end f.sources) (sym same)
              (both sources_of clock o w old.found.sources h.sources (subst (CoverWhole sources_of (come clock o w) w.candidates l.start l.end old.found.sources) fault left.sources)));
          targets = subst (λ (n : ℕ). Cover targets_of (come clock o w) w.candidates 0 n new.found.targets) (sym end) (subst (λ (f : MatchBuffer). Cover targets_of (come clock o w) w.candidates 0 l.end f.targets) (sym same)
              (both targets_of clock o w old.found.targets h.targets (subst (CoverWhole targets_of (come clock o w) w.candidates l.start l.end old.found.targets) fault left.targets)));
        },
        same,
      );
}
  where
    fed : FedFrom old.accums new.accums old.fed l.batches l.inputs new.fed
    fed = subst (λ x. FedFrom old.accums new.accums old.fed l.batches x new.fed) listed took

    both : (f : List Match → List ℕ) (clock : Calendar) (o : Over) (w : Work) (words : List ℕ) → Cover f (come clock o w) w.candidates 0 old.at words → Cover f (come clock o w) w.candidates l.start l.end words → Cover f (come clock o w) w.candidates 0 l.end words
    both f clock o w words a b p v low high e = by (below_or_not p old.at)
      where
        by : (p < old.at) ⊎ (old.at ≤ p) → is_marked words v ≡ true
        by (inl x) = a p v low x e
        by (inr x) = let s = start in b p v (omega (arith, x, s)) high e

pub left_faults : (l : ChunkOutput) (old new : BlockProgress) (f : ℕ × Stop) → l.start ≡ old.at → l.fault ≡ Some f → FeedsLeft l old new (Some f)
left_faults l old new f start fault = record {
  each = λ clock o w h left.
      let came : Came (come clock o w) w.candidates o l.start l.end l.batches l.inputs (Some f) = subst (Came (come clock o w) w.candidates o l.start l.end l.batches l.inputs) fault left.came in
      came h.matched (subst (λ (n : ℕ). Rattle.gq_workers.specs.Running.MatchesTo (come clock o w) w.candidates n h.matched) (sym start) h.ran);
}

-- an output that doesn't follow is left
pub left_stays : (l : ChunkOutput) (old : BlockProgress) → FeedsLeft l old old None
left_stays l old = record { each = λ clock o w h left. (h, refl) }

pub ruleset left_laws = (left_fed, left_faults, left_stays)

pub feeds_first : (parts : List (Result WorkerOutput OutOfMemory)) (old : BlockProgress) → FeedsParts parts old old None
feeds_first parts old = record { each = λ clock o w h lefts. (h, refl) }

there : (clock : Calendar) (o : Over) (w : Work) (s t : List ℕ) (parts : List (Result WorkerOutput OutOfMemory)) (l : ChunkOutput) → AreLefts clock o w s t parts → StandsIn parts l → IsLeft clock o w s t l
there clock o w s t parts l are h =
    let p : All (IsLeft clock o w s t) h.part.lefts = subst (λ x. IfOk x (λ p. All (IsLeft clock o w s t) p.lefts)) (get_or_from_slice_get parts h.worker (Ok h.part) (Ok h.part) h.there)
    (All-get_or (λ part. IfOk part (λ p. All (IsLeft clock o w s t) p.lefts)) parts h.worker (Ok h.part) (slice_get_within parts h.worker (Ok h.part) h.there) are) in
    subst (IsLeft clock o w s t) (get_or_from_slice_get h.part.lefts h.place l l h.stands) (All-get_or (IsLeft clock o w s t) h.part.lefts h.place l (slice_get_within h.part.lefts h.place l h.stands) p)

pub feeds_next : (parts : List (Result WorkerOutput OutOfMemory)) (l : ChunkOutput) (old mid new : BlockProgress) (f : Option (ℕ × Stop)) → FeedsParts parts old mid None → StandsIn parts l → FeedsLeft l mid new f → FeedsParts parts old new f
feeds_next parts l old mid new f h at step = record {
  each = λ clock o w start lefts.
      let m = h.each clock o w start lefts in
      by clock o w f (subst (λ (x : MatchBuffer). x ≡ old.found) refl m.1) (step.each clock o w m.0 (subst (λ (x : MatchBuffer). IsLeft clock o w x.sources x.targets l) (sym m.1) (there clock o w old.found.sources old.found.targets parts l lefts at)));
}
  where
    by : (clock : Calendar) (o : Over) (w : Work) (f : Option (ℕ × Stop)) → mid.found ≡ old.found → Feeds clock o w mid new f → Feeds clock o w old new f
    by clock o w None e x = (x.0, x.1 ∙ e)
    by clock o w (Some y) e x = x

pub ruleset feeds_laws = (feeds_first, feeds_next)

-- ---- a round

module _ (clock : Calendar) (o : Over) (w : Work) (first last : ℕ) (parts : List (Result WorkerOutput OutOfMemory)) (old mid new : BlockProgress) where
  begins : HasRun clock o w old → AreParts clock o w first last parts → MarksParts parts old.found mid.found → mid.at ≡ old.at → mid.accums ≡ old.accums → mid.fed ≡ old.fed → InRound clock o w mid
  begins h are marks at accums fed = record {
    matched = h.matched;
    ran = subst (λ (n : ℕ). Rattle.gq_workers.specs.Running.MatchesTo (come clock o w) w.candidates n h.matched) (sym at) h.ran;
    fed = subst (λ a. Rattle.gq_workers.specs.Running.AreFedTo o h.matched a mid.fed) (sym accums) (subst (Rattle.gq_workers.specs.Running.AreFedTo o h.matched old.accums) (sym fed) h.fed);
    sources = λ p v low high e. (marks.sources clock o w first last are).kept v (h.sources.cover p v low (let s = at in omega (arith, high, s)) e);
    targets = λ p v low high e. (marks.targets clock o w first last are).kept v (h.targets.cover p v low (let s = at in omega (arith, high, s)) e);
  }

  pub round_faults : (f : ℕ × Stop) → HasRun clock o w old → AreParts clock o w first last parts → MarksParts parts old.found mid.found → mid.at ≡ old.at → mid.accums ≡ old.accums → mid.fed ≡ old.fed → FeedsParts parts mid new (Some f) → StandsOr clock o w new (Some f)
  round_faults f h are marks at accums fed feeds = feeds.each clock o w (begins h are marks at accums fed) (marks.lefts clock o w first last are)

  pub round_done : HasRun clock o w old → AreParts clock o w first last parts → MarksParts parts old.found mid.found → mid.at ≡ old.at → mid.accums ≡ old.accums → mid.fed ≡ old.fed → FeedsParts parts mid new None → StandsOr clock o w new None
  round_done h are marks at accums fed feeds =
      let r = feeds.each clock o w (begins h are marks at accums fed) (marks.lefts clock o w first last are) in record {
        matched = r.0.matched;
        ran = r.0.ran;
        fed = r.0.fed;
        empty = subst IsEmpty (sym r.1) (marks.empty h.empty);
        shaped = subst (IsShaped (length o.vertices)) (sym r.1) (marks.shaped (length o.vertices) h.shaped);
        sources = record { cover = r.0.sources; only = λ v t. from sources_of old.found.sources mid.found.sources h.sources (marks.sources clock o w first last are) v (ap (λ (x : MatchBuffer). is_marked x.sources v) (sym r.1) ∙ t) };
        targets = record { cover = r.0.targets; only = λ v t. from targets_of old.found.targets mid.found.targets h.targets (marks.targets clock o w first last are) v (ap (λ (x : MatchBuffer). is_marked x.targets v) (sym r.1) ∙ t) };
      }
    where
      from : (f : List Match → List ℕ) (a b : List ℕ) → AreMarked f (come clock o w) w.candidates old.at a → Mark f (come clock o w) w.candidates first last a b → (v : ℕ) → is_marked b v ≡ true → (place : ℕ) × IsAtEnd f (come clock o w) w.candidates place v
      from f a b was step v t = by (true_or_false (is_marked a v))
        where
          by : (is_marked a v ≡ true) ⊎ (is_marked a v ≡ false) → (place : ℕ) × IsAtEnd f (come clock o w) w.candidates place v
          by (inl x) = was.only v x
          by (inr x) = let q = step.only v t x in (q.0, q.3)

module _ (g : RoundOutput) (parts : List (Result WorkerOutput OutOfMemory)) (old mid new : BlockProgress) where
  tried : (clock : Calendar) (o : Over) (w : Work) → parts ≡ g.parts.items → IsAhead clock o w g → AreParts clock o w g.first g.last parts
  tried clock o w listed ahead = subst (AreParts clock o w g.first g.last) (sym listed) ahead

  feeds_round_fault : (f : ℕ × Stop) → parts ≡ g.parts.items → MarksParts parts old.found mid.found → mid.at ≡ old.at → mid.accums ≡ old.accums → mid.fed ≡ old.fed → FeedsParts parts mid new (Some f) → FeedsRound g old new (Some f)
  feeds_round_fault f listed marks at accums fed feeds = record {
    each = λ clock o w h ahead. round_faults clock o w g.first g.last parts old mid new f h (tried clock o w listed ahead) marks at accums fed feeds;
  }

  feeds_round : parts ≡ g.parts.items → MarksParts parts old.found mid.found → mid.at ≡ old.at → mid.accums ≡ old.accums → mid.fed ≡ old.fed → FeedsParts parts mid new None → FeedsRound g old new None
  feeds_round listed marks at accums fed feeds = record {
    each = λ clock o w h ahead. round_done clock o w g.first g.last parts old mid new h (tried clock o w listed ahead) marks at accums fed feeds;
  }

  pub nothing_fed : FeedsRound g old old None
  nothing_fed = record { each = λ clock o w h ahead. h }

  pub feeds_round_ok : (r : Result (Option (ℕ × Stop)) OutOfMemory) → parts ≡ g.parts.items → MarksParts parts old.found mid.found → mid.at ≡ old.at → mid.accums ≡ old.accums → mid.fed ≡ old.fed → IfOk r (FeedsParts parts mid new) → IfOk r (FeedsRound g old new)
  feeds_round_ok (Ok (Some f)) listed marks at accums fed feeds = feeds_round_fault f listed marks at accums fed feeds
  feeds_round_ok (Ok None) listed marks at accums fed feeds = feeds_round listed marks at accums fed feeds
  feeds_round_ok (Err e) listed marks at accums fed feeds = tt

module _ (clock : Calendar) (o : Over) (w : Work) where
  -- before the first round nothing is ahead
  pub none_ahead : (g : RoundOutput) → g.parts.items ≡ [] → IsAhead clock o w g
  none_ahead g none = subst (AreParts clock o w g.first g.last) (sym none) (All-nil (λ part. IfOk part (IsPart clock o w g.first g.last)))

  pub round_on : (old new : BlockProgress) (g next : RoundOutput) → HasRun clock o w old → IsAhead clock o w g → FeedsRound g old new None → g.last < next.last → AreParts clock o w next.first next.last next.parts.items → GoesOn clock o w g.last new next None
  round_on old new g next h ahead fed more parts = (fed.each clock o w h ahead, parts, more)

  pub round_stops : (old new : BlockProgress) (g : RoundOutput) (f : ℕ × Stop) → HasRun clock o w old → IsAhead clock o w g → FeedsRound g old new (Some f) → GoesOn clock o w g.last new g (Some f)
  round_stops old new g f h ahead fed = fed.each clock o w h ahead

  pub stands_ok : (old new : BlockProgress) (g : RoundOutput) (r : Result (Option (ℕ × Stop)) OutOfMemory) → HasRun clock o w old → IsAhead clock o w g → IfOk r (FeedsRound g old new) → IfOk r (StandsOr clock o w new)
  stands_ok old new g (Ok f) h ahead fed = fed.each clock o w h ahead
  stands_ok old new g (Err e) h ahead fed = tt

-- ---- two answers

pub both_ok : {A B T : Type 0} (P : A → Type 0) (Q : B → Type 0) (x : Result A OutOfMemory) (y : Result B OutOfMemory) (a : T → A) (b : T → B) (result : Result T OutOfMemory) → IfOk x P → IfOk y Q → IfOk result (λ t. (x ≡ Ok (a t)) × (y ≡ Ok (b t))) → IfOk result (λ t. P (a t) × Q (b t))
both_ok P Q x y a b (Ok t) p q h = (subst (λ r. IfOk r P) h.0 p, subst (λ r. IfOk r Q) h.1 q)
both_ok P Q x y a b (Err e) p q h = tt
