-- MarkLemmas: marks, candidate after candidate.
use Rattle.std.proofs.Common.{◌≡◌, ℕ, zero, suc, ◌+◌, ◌<◌, ◌≤◌, ◌||◌, ◌⊎◌, inl, inr, Bool, true, false, List, [], ◌∷◌, ◌++◌, length, slice_get, Some, refl, sym, ap, ◌∙◌, subst, arith}
use Rattle.std.proofs.lemmas.List.{map-append}
use Rattle.gq_graph.specs.declared.rows.Candidate.{Candidate}
use Rattle.gq_value.specs.declared.value.Wrong.{Wrong}
use Rattle.gq_graph.specs.Candidates.{among}
use Rattle.gq_exec_source.specs.Marks.{Marks, is_marked}
use Rattle.gq_exec_source.proofs.SetLemmas.{among_append}
use Rattle.gq_rules_meaning.specs.Answers.{Answer, Gives, Faults, Stuck, ◌>>=◌, blaming}
use Rattle.gq_rules_meaning.specs.Blocks as blocks
use Rattle.gq_rules_meaning.specs.Blocks.{AtPlace, Match}
use Rattle.gq_workers.specs.Running.{matches_by, sources_of, targets_of, IsAtEnd, Cover, Mark, AreMarked, MarkThose}
use Rattle.gq_workers.proofs.FoundLemmas.{targets_append}

-- ---- numbers and truth values

pub below_or_same : (q p : ℕ) → q < p + 1 → (q < p) ⊎ (q ≡ p)
below_or_same zero zero h = inr refl
below_or_same zero (suc p) h = inl (omega arith)
below_or_same (suc q) zero h = absurd (omega (arith, h))
below_or_same (suc q) (suc p) h = by (below_or_same q p (omega (arith, h)))
  where
    by : (q < p) ⊎ (q ≡ p) → (suc q < suc p) ⊎ (suc q ≡ suc p)
    by (inl l) = inl (omega (arith, l))
    by (inr e) = inr (ap suc e)

pub below_or_not : (q p : ℕ) → (q < p) ⊎ (p ≤ q)
below_or_not q zero = inr (omega arith)
below_or_not zero (suc p) = inl (omega arith)
below_or_not (suc q) (suc p) = by (below_or_not q p)
  where
    by : (q < p) ⊎ (p ≤ q) → (suc q < suc p) ⊎ (suc p ≤ suc q)
    by (inl l) = inl (omega (arith, l))
    by (inr l) = inr (omega (arith, l))

pub or_second : (a b : Bool) → b ≡ true → (a || b) ≡ true
or_second true b h = refl
or_second false b h = h

pub or_first : (a b : Bool) → a ≡ true → (a || b) ≡ true
or_first true b h = refl
or_first false b h = absurd (cc h)

pub of_or : (a b : Bool) → (a || b) ≡ true → b ≡ false → a ≡ true
of_or true b h n = refl
of_or false b h n = absurd (cc (h, n))

both_false : (a b : Bool) → (a || b) ≡ true → (a ≡ true) ⊎ (b ≡ true)
both_false true b h = inl refl
both_false false b h = inr h

pub true_or_false : (b : Bool) → (b ≡ true) ⊎ (b ≡ false)
true_or_false true = inl refl
true_or_false false = inr refl

pub not_both : {A : Type 0} (b : Bool) → b ≡ true → b ≡ false → A
not_both true h n = absurd (cc n)
not_both false h n = absurd (cc h)

same_truth : (a b : Bool) → (a ≡ true → b ≡ true) → (b ≡ true → a ≡ true) → a ≡ b
same_truth true true f g = refl
same_truth false false f g = refl
same_truth true false f g = sym (f refl)
same_truth false true f g = g refl

same_some : {A : Type 0} {a b : A} → Some a ≡ Some b → a ≡ b
same_some h = cc

abbrev gave : List Match → Answer Wrong (List Match)
gave ms = Gives ms

abbrev given : List Match → Answer blocks.BlockFault (List Match)
given ms = Gives ms

gave_same : (a b : List Match) → gave a ≡ gave b → a ≡ b
gave_same a b h = cc

given_same : (a b : List Match) → given a ≡ given b → a ≡ b
given_same a b h = cc

-- ---- one more candidate

module _ (f : List Match → List ℕ) (go : Candidate → Answer Wrong (List Match)) (cs : List Candidate) where
  pub mark_first : (s : ℕ) (words : List ℕ) → Mark f go cs s s words words
  mark_first s words = record { kept = λ v h. h; only = λ v h n. not_both (is_marked words v) h n }

  pub cover_first : (s : ℕ) (words : List ℕ) → Cover f go cs s s words
  cover_first s words p v low high at = absurd (omega (arith, low, high))

  here : (p : ℕ) (c : Candidate) (m : List Match) (v : ℕ) → slice_get cs p ≡ Some c → go c ≡ Gives m → IsAtEnd f go cs p v → among (f m) v ≡ true
  here p c m v at is e = ap (λ (l : List Match). among (f l) v) (sym (gave_same e.matched m (sym e.comes ∙ ap go (same_some (sym e.stands ∙ at)) ∙ is))) ∙ e.ends

  pub mark_next : (s p : ℕ) (c : Candidate) (m : List Match) (old mid new : List ℕ) → s ≤ p → slice_get cs p ≡ Some c → go c ≡ Gives m → Mark f go cs s p old mid → MarkThose f m mid new → Mark f go cs s (p + 1) old new
  mark_next s p c m old mid new low at is before step = record {
    kept = λ v h. step v ∙ or_second (among (f m) v) (is_marked mid v) (before.kept v h);
    only = λ v h n. by v h n (true_or_false (is_marked mid v));
  }
    where
      by : (v : ℕ) → is_marked new v ≡ true → is_marked old v ≡ false → (is_marked mid v ≡ true) ⊎ (is_marked mid v ≡ false) → (place : ℕ) × (s ≤ place) × (place < p + 1) × IsAtEnd f go cs place v
      by v h n (inl t) = let r = before.only v t n in let l = r.2 in (r.0, r.1, omega (arith, l), r.3)
      by v h n (inr t) = (p, low, omega arith, record { candidate = c; matched = m; stands = at; comes = is; ends = of_or (among (f m) v) (is_marked mid v) (sym (step v) ∙ h) t })

  pub cover_next : (s p : ℕ) (c : Candidate) (m : List Match) (mid new : List ℕ) → slice_get cs p ≡ Some c → go c ≡ Gives m → Cover f go cs s p mid → MarkThose f m mid new → Cover f go cs s (p + 1) new
  cover_next s p c m mid new at is before step q v low high e = step v ∙ by (below_or_same q p high)
    where
      by : (q < p) ⊎ (q ≡ p) → (among (f m) v || is_marked mid v) ≡ true
      by (inl l) = or_second (among (f m) v) (is_marked mid v) (before q v low l e)
      by (inr same) = or_first (among (f m) v) (is_marked mid v) (here p c m v at is (subst (λ (k : ℕ). IsAtEnd f go cs k v) same e))

  -- a fault marks nothing
  pub mark_wider : (s p end : ℕ) (old mid new : List ℕ) → p ≤ end → Mark f go cs s p old mid → new ≡ mid → Mark f go cs s end old new
  mark_wider s p end old mid new l h e = record {
    kept = λ v t. ap (λ w. is_marked w v) e ∙ h.kept v t;
    only = λ v t n. let r = h.only v (ap (λ w. is_marked w v) (sym e) ∙ t) n in let high = r.2 in (r.0, r.1, omega (arith, l, high), r.3);
  }

  -- ---- a run

  pub marked_first : (words : List ℕ) → ((v : ℕ) → is_marked words v ≡ false) → AreMarked f go cs 0 words
  marked_first words none = record {
    cover = λ p v low high e. absurd (omega (arith, high));
    only = λ v h. not_both (is_marked words v) h (none v);
  }

  pub marked_more : (at end : ℕ) (old new : List ℕ) → at ≤ end → AreMarked f go cs at old → Mark f go cs at end old new → Cover f go cs at end new → AreMarked f go cs end new
  marked_more at end old new l h step cover = record {
    cover = λ p v low high e. by p v high e (below_or_not p at);
    only = λ v t. from v t (true_or_false (is_marked old v));
  }
    where
      by : (p v : ℕ) → p < end → IsAtEnd f go cs p v → (p < at) ⊎ (at ≤ p) → is_marked new v ≡ true
      by p v high e (inl b) = step.kept v (h.cover p v (omega arith) b e)
      by p v high e (inr b) = cover p v b high e

      from : (v : ℕ) → is_marked new v ≡ true → (is_marked old v ≡ true) ⊎ (is_marked old v ≡ false) → (place : ℕ) × IsAtEnd f go cs place v
      from v t (inl o) = h.only v o
      from v t (inr o) = let r = step.only v t o in (r.0, r.3)

-- ---- all candidates

record Cut (go : Candidate → Answer Wrong (List Match)) (n : ℕ) (c : Candidate) (cs : List Candidate) (ms : List Match) : Type 0 where
  first : List Match
  rest : List Match
  comes : go c ≡ Gives first
  others : matches_by go (suc n) cs ≡ Gives rest
  whole : ms ≡ first ++ rest

cut : (go : Candidate → Answer Wrong (List Match)) (n : ℕ) (c : Candidate) (cs : List Candidate) (ms : List Match) → matches_by go n (c ∷ cs) ≡ Gives ms → Cut go n c cs ms
cut go n c cs ms h = by (go c) (matches_by go (suc n) cs) refl refl h
  where
    by : (g : Answer Wrong (List Match)) (r : Answer blocks.BlockFault (List Match)) → go c ≡ g → matches_by go (suc n) cs ≡ r → (blaming (AtPlace n) g >>= λ m. r >>= λ ks. Gives (m ++ ks)) ≡ Gives ms → Cut go n c cs ms
    by (Gives m) (Gives ks) p q e = record { first = m; rest = ks; comes = p; others = q; whole = sym (given_same (m ++ ks) ms e) }
    by (Gives m) (Faults x) p q e = absurd (cc e)
    by (Gives m) Stuck p q e = absurd (cc e)
    by (Faults w) r p q e = absurd (cc e)
    by Stuck r p q e = absurd (cc e)

module _ (f : List Match → List ℕ) (none : f [] ≡ []) (parts : (a b : List Match) → f (a ++ b) ≡ f a ++ f b) (go : Candidate → Answer Wrong (List Match)) where
  split_among : (a b ms : List Match) (v : ℕ) → ms ≡ a ++ b → among (f ms) v ≡ (among (f a) v || among (f b) v)
  split_among a b ms v e = ap (λ (l : List Match). among (f l) v) e ∙ ap (λ l. among l v) (parts a b) ∙ among_append (f a) (f b) v

  there : (n : ℕ) (cs : List Candidate) (ms : List Match) (p v : ℕ) → matches_by go n cs ≡ Gives ms → IsAtEnd f go cs p v → among (f ms) v ≡ true
  there n [] ms p v h e = Rattle.gq_exec_feed.proofs.PlaceLemmas.none_apart e.candidate e.stands
  there n (c ∷ cs) ms zero v h e = let k = cut go n c cs ms h in split_among k.first k.rest ms v k.whole ∙ or_first (among (f k.first) v) (among (f k.rest) v)
      (ap (λ (l : List Match). among (f l) v) (gave_same k.first e.matched (sym k.comes ∙ ap go (same_some e.stands) ∙ e.comes)) ∙ e.ends)
  there n (c ∷ cs) ms (suc p) v h e = let k = cut go n c cs ms h in split_among k.first k.rest ms v k.whole ∙ or_second (among (f k.first) v) (among (f k.rest) v)
      (there (suc n) cs k.rest p v k.others (record { candidate = e.candidate; matched = e.matched; stands = e.stands; comes = e.comes; ends = e.ends }))

  there_then : (n : ℕ) (c : Candidate) (cs : List Candidate) (ms : List Match) (v : ℕ) (k : Cut go n c cs ms) → (among (f k.first) v ≡ true) ⊎ (among (f k.rest) v ≡ true) → (among (f k.rest) v ≡ true → (p : ℕ) × (p < length cs) × IsAtEnd f go cs p v) → (p : ℕ) × (p < length (c ∷ cs)) × IsAtEnd f go (c ∷ cs) p v
  there_then n c cs ms v k (inl a) more = (zero, omega arith, record { candidate = c; matched = k.first; stands = refl; comes = k.comes; ends = a })
  there_then n c cs ms v k (inr b) more = let r = more b in let low = r.1 in (suc r.0, omega (arith, low), record { candidate = r.2.candidate; matched = r.2.matched; stands = r.2.stands; comes = r.2.comes; ends = r.2.ends })

  back : (n : ℕ) (cs : List Candidate) (ms : List Match) (v : ℕ) → matches_by go n cs ≡ Gives ms → among (f ms) v ≡ true → (p : ℕ) × (p < length cs) × IsAtEnd f go cs p v
  back n [] ms v h t = absurd (none_among (sym (ap (λ (l : List Match). among (f l) v) (given_same [] ms h) ∙ t) ∙ ap (λ l. among l v) none))
    where
      none_among : true ≡ false → ⊥
      none_among e = cc e
  back n (c ∷ cs) ms v h t = let k = cut go n c cs ms h in there_then n c cs ms v k (both_false (among (f k.first) v) (among (f k.rest) v) (sym (split_among k.first k.rest ms v k.whole) ∙ t)) (λ b. back (suc n) cs k.rest v k.others b)

  pub over : (cs : List Candidate) (ms : List Match) (words : List ℕ) (at : ℕ) → length cs ≤ at → matches_by go 0 cs ≡ Gives ms → AreMarked f go cs at words → Marks words (f ms)
  over cs ms words at l h marked v = same_truth (is_marked words v) (among (f ms) v)
      (λ t. let r = marked.only v t in there 0 cs ms r.0 v h r.1)
      (λ t. let r = back 0 cs ms v h t in let low = r.1 in marked.cover r.0 v (omega arith) (omega (arith, l, low)) r.2)

pub sources_over : (go : Candidate → Answer Wrong (List Match)) (cs : List Candidate) (ms : List Match) (words : List ℕ) (at : ℕ) → length cs ≤ at → matches_by go 0 cs ≡ Gives ms → AreMarked sources_of go cs at words → Marks words (sources_of ms)
sources_over go = over sources_of refl (map-append (λ (m : Match). m.candidate.source)) go

pub targets_over : (go : Candidate → Answer Wrong (List Match)) (cs : List Candidate) (ms : List Match) (words : List ℕ) (at : ℕ) → length cs ≤ at → matches_by go 0 cs ≡ Gives ms → AreMarked targets_of go cs at words → Marks words (targets_of ms)
targets_over go = over targets_of refl targets_append go
