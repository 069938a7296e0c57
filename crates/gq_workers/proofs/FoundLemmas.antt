-- FoundLemmas: what was found: initially, after INTs are appended to the batch, and after a candidate.
use Rattle.std.proofs.Common.{◌≡◌, ℕ, zero, suc, ◌+◌, ◌*◌, ◌/◌, ◌%◌, ◌<◌, ◌≤◌, ◌==◌, ◌||◌, Bool, true, false, List, [], ◌∷◌, ◌++◌, map, take, length, replicate, slice_get, get_or, Result, Ok, Err, IfOk, Option, Some, None, refl, sym, ap, ap₂, ◌∙◌, subst, arith, append-nil, append_assoc}
use Rattle.std.specs.List.{All, AllByRecursion}
use Rattle.std.proofs.lemmas.List.{map-append, take_all}
use Rattle.std.proofs.lemmas.List.Elements.{All-nil, All-cons, recursion_from_All}
use Rattle.std.proofs.lemmas.Option.{slice_get_within, get_or_from_slice_get}
use Rattle.std.proofs.lemmas.Bool.Decides.{nat_tests}
use Rattle.gq_value.specs.declared.kind.Input.{Input}
use Rattle.gq_graph.specs.declared.rows.Candidate.{Candidate}
use Rattle.gq_value.specs.declared.value.Wrong.{Wrong}
use Rattle.gq_graph.specs.Candidates.{among}
use Rattle.gq_core.specs.Batches.{batch_of, Gains}
use Rattle.gq_frame.specs.declared.slots.Slots.{Slots}
use Rattle.gq_exec_source.specs.Marks.{is_marked}
use Rattle.gq_exec_source.proofs.SetLemmas.{unmarked_none}
use Rattle.gq_rules_meaning.specs.Answers.{Answer, Gives}
use Rattle.gq_rules_meaning.specs.Blocks.{Contribution, Match}
use Rattle.gq_rules_meaning.specs.Calendars.{Calendar}
use Rattle.gq_plan_ir.specs.declared.block.Block.{Block}
use Rattle.gq_frame.specs.Names.{Placed}
use Rattle.gq_eval_context.specs.Viewed.{Over}
use Rattle.gq_exec_source.specs.declared.ends.Ends.{Ends}
use Rattle.gq_exec_source.specs.Starts.{IsWithin}
use Rattle.gq_exec_feed.specs.Taking.{MayTake, as_given, targeted, AreBatched}
use Rattle.gq_exec_contribute.specs.Passing.{GainsAll, Comes}
use Rattle.gq_exec_contribute.specs.declared.candidate.Outcome.{Outcome}
use Rattle.gq_exec_contribute.specs.declared.candidate.Outcome.TheVariants as outcome
use Rattle.gq_exec_contribute.specs.declared.candidate.Stop.{Stop}
use Rattle.gq_exec_contribute.specs.Scalars.{made_of, as_input, as_inputs}
use Rattle.gq_workers.specs.declared.found.MatchBuffer.{MatchBuffer}
use Rattle.gq_exec_contribute.specs.Aliases.{bound_to}
use Rattle.gq_exec_contribute.specs.Prepared.{AreInputs}
use Rattle.gq_workers.specs.Running.{comes_under, comes, ComesUnder, gives_of, sources_of, targets_of, Wait, IsShaped, IsOpened, AddsInputs, Settles, Tried, marks_end}
use Rattle.gq_exec_contribute.specs.declared.scalars.ScalarInput.{ScalarInput}

-- ---- initially

words_of : (n : ℕ) (words : List ℕ) → words ≡ replicate (n / 64 + 1) 0 → (n ≤ length words * 64) × (n ≤ 4194304 → length words ≤ 67108863)
words_of n words e = (omega (arith, l), λ few. omega (arith, l, few))
  where
    long : (m z : ℕ) → length (replicate m z) ≡ m
    long zero z = refl
    long (suc m) z = ap suc (long m z)

    l : length words ≡ n / 64 + 1
    l = ap length e ∙ long (n / 64 + 1) 0

no_marks : (n : ℕ) (words : List ℕ) → words ≡ replicate (n / 64 + 1) 0 → (v : ℕ) → is_marked words v ≡ false
no_marks n words e v = ap (λ w. is_marked w v) e ∙ unmarked_none (n / 64 + 1) v

pub opened : (n : ℕ) (found : MatchBuffer) → found.batches ≡ [] ∷ [] → found.inputs ≡ [] → found.sources ≡ replicate (n / 64 + 1) 0 → found.targets ≡ replicate (n / 64 + 1) 0 → IsOpened n found
opened n found batches ints sources targets = record {
  shaped = λ few. record {
    one = ap length batches;
    sources = (words_of n found.sources sources).0;
    targets = (words_of n found.targets targets).0;
    short = record { sources = (words_of n found.sources sources).1 few; targets = (words_of n found.targets targets).1 few };
  };
  empty = record { batches = batches; inputs = ints };
  sources = no_marks n found.sources sources;
  targets = no_marks n found.targets targets;
}

pub ruleset open_laws = (opened)

-- ---- one batch

-- with a single stripe everything is in its batch
whole_batch : (xs : List (ℕ × Input)) → batch_of 1 0 xs ≡ xs
whole_batch [] = refl
whole_batch (x ∷ xs) = ap₂ (λ b l. Rattle.std.proofs.Common.cond b (x ∷ l) l) (zero_rest x.0) (whole_batch xs)
  where
    zero_rest : (n : ℕ) → (n % 1 == 0) ≡ true
    zero_rest n = grind (arith, nat_tests)

first_of : {A : Type 0} {a b : A} → Some a ≡ Some b → a ≡ b
first_of h = cc

one_list : {A : Type 0} (l : List A) (x : A) → length l ≡ 1 → slice_get l 0 ≡ Some x → l ≡ x ∷ []
one_list [] x h g = absurd (omega (arith, h))
one_list (y ∷ []) x h g = ap (λ z. z ∷ []) (first_of g)
one_list (y ∷ z ∷ l) x h g = absurd (omega (arith, h))

gained : (old new : List (List (ℕ × Input))) (batch inputs : List (ℕ × Input)) → old ≡ batch ∷ [] → GainsAll old new inputs → new ≡ (batch ++ inputs) ∷ []
gained old new batch inputs e g = one_list new (batch ++ inputs) (g.same ∙ ap length e)
    (g.gains 0 batch (ap (λ l. slice_get l 0) e) ∙ ap (λ (n : ℕ). Some (batch ++ batch_of n 0 inputs)) (ap length e) ∙ ap (λ l. Some (batch ++ l)) (whole_batch inputs))

-- ---- the shape is unchanged

pub shaped_still : (n : ℕ) (old new : MatchBuffer) → IsShaped n old → length new.batches ≡ length old.batches → length new.sources ≡ length old.sources → length new.targets ≡ length old.targets → IsShaped n new
shaped_still n old new s b p q = record {
  one = b ∙ s.one;
  sources = subst (λ (l : ℕ). n ≤ l * 64) (sym p) s.sources;
  targets = subst (λ (l : ℕ). n ≤ l * 64) (sym q) s.targets;
  short = record { sources = subst (λ (l : ℕ). l ≤ 67108863) (sym p) s.short.sources; targets = subst (λ (l : ℕ). l ≤ 67108863) (sym q) s.short.targets };
}

-- ---- INTs appended to the batch

pub ints_none : (xs : List (ℕ × ScalarInput)) (old : List (List (ℕ × Input))) → AddsInputs (take 0 xs) old old
ints_none [] old = record { each = λ batch e. e ∙ ap (λ l. l ∷ []) (sym (append-nil batch)) }
ints_none (x ∷ xs) old = record { each = λ batch e. e ∙ ap (λ l. l ∷ []) (sym (append-nil batch)) }

take_next : (n : ℕ) (xs : List (ℕ × ScalarInput)) (x : ℕ × ScalarInput) → n < length xs → x ≡ get_or xs n x → take (n + 1) xs ≡ take n xs ++ x ∷ []
take_next n [] x l e = absurd (omega (arith, l))
take_next zero (y ∷ xs) x l e = (none xs ∙ ap (λ z. z ∷ []) (sym e))
  where
    none : (xs : List (ℕ × ScalarInput)) → take (0 + 1) (y ∷ xs) ≡ y ∷ []
    none [] = refl
    none (z ∷ xs) = refl
take_next (suc n) (y ∷ xs) x l e = (let z : suc n + 1 ≡ suc (n + 1) = omega arith in ap (λ (m : ℕ). take m (y ∷ xs)) z) ∙ ap (λ r. y ∷ r) (take_next n xs x (omega (arith, l)) e)

pub ints_more : (xs : List (ℕ × ScalarInput)) (n : ℕ) (x : ℕ × ScalarInput) (old was new : List (List (ℕ × Input))) → n < length xs → x ≡ get_or xs n x → AddsInputs (take n xs) old was → Gains was new x.0 (made_of x.1) → AddsInputs (take (n + 1) xs) old new
ints_more xs n x old was new l is before gains = record {
  each = λ batch e. gained was new (batch ++ as_inputs (take n xs)) (as_input x ∷ []) (before.each batch e) (record { same = gains.same; gains = gains.gains })
      ∙ ap (λ l. l ∷ []) (append_assoc batch (as_inputs (take n xs)) (as_input x ∷ []) ∙ ap (λ l. batch ++ l) (sym (map-append as_input (take n xs) (x ∷ []))) ∙ ap (λ l. batch ++ as_inputs l) (sym (take_next n xs x l is)));
}

pub ints_at : (xs : List (ℕ × ScalarInput)) (n : ℕ) (x : ℕ × ScalarInput) (v : Input) (old was new : List (List (ℕ × Input))) → slice_get xs n ≡ Some x → v ≡ made_of x.1 → Gains was new x.0 v → AddsInputs (take n xs) old was → AddsInputs (take (n + 1) xs) old new
ints_at xs n x v old was new there e gains before =
    ints_more xs n x old was new (slice_get_within xs n x there) (sym (get_or_from_slice_get xs n x x there)) before (subst (λ (u : Input). Gains was new x.0 u) e gains)

pub ints_all : (xs : List (ℕ × ScalarInput)) (n : ℕ) (old new : List (List (ℕ × Input))) → length xs ≤ n → AddsInputs (take n xs) old new → AddsInputs xs old new
ints_all xs n old new l h = subst (λ l. AddsInputs l old new) (take_all n xs l) h

pub ruleset ints_laws = (ints_none, ints_more, ints_all)

one_batch : (old : List (List (ℕ × Input))) → length old ≡ 1 → (batch : List (ℕ × Input)) × (old ≡ batch ∷ [])
one_batch [] h = absurd (omega (arith, h))
one_batch (x ∷ []) h = (x, refl)
one_batch (x ∷ y ∷ l) h = absurd (omega (arith, h))

pub settled : (old new : MatchBuffer) (ints : List (ℕ × ScalarInput)) → length old.batches ≡ 1 → ints ≡ old.inputs → AddsInputs ints old.batches new.batches → new.inputs ≡ [] → new.sources ≡ old.sources → new.targets ≡ old.targets → Settles old new
settled old new ints one same added none sources targets = record {
  shaped = λ n s. shaped_still n old new s long (ap length sources) (ap length targets);
  wait = λ o ms h. record {
    may = h.may;
    batch = h.batch ++ as_inputs old.inputs;
    waiting = adds.each h.batch h.waiting;
    batched = ap (map as_given) (ap (λ l. (h.batch ++ as_inputs old.inputs) ++ as_inputs l) none ∙ append-nil (h.batch ++ as_inputs old.inputs)) ∙ h.batched;
    within = h.within;
  };
  sources = sources;
  targets = targets;
}
  where
    adds : AddsInputs old.inputs old.batches new.batches
    adds = subst (λ l. AddsInputs l old.batches new.batches) same added

    long : length new.batches ≡ length old.batches
    long = let b = one_batch old.batches one in ap length (adds.each b.0 b.1) ∙ sym one

pub settled_same : (found : MatchBuffer) → Settles found found
settled_same found = record { shaped = λ n s. s; wait = λ o ms h. h; sources = refl; targets = refl }

pub ruleset settle_laws = (settled, settled_same)

-- ---- a candidate

pub under_own : {E : Type 0} (clock : Calendar) (o : Over) (block : Block) (ends : Ends) (edge : Option ℕ) (c : Candidate) (aliases : List (ℕ × Placed)) (result : Result Outcome E) (old new : List (List (ℕ × Input))) → aliases ≡ bound_to ends edge c
    → IfOk result (ComesUnder clock o block aliases old new) → IfOk result (Comes o.frame.accums.slots c (comes clock o block ends edge c) old new)
under_own clock o block ends edge c aliases (Ok r) old new e h = subst (λ (l : List (ℕ × Placed)). Comes o.frame.accums.slots c (comes_under clock o block l c) old new r) e (h c)
under_own clock o block ends edge c aliases (Err x) old new e h = tt

pub flat_append : (ms ns : List Match) → gives_of (ms ++ ns) ≡ gives_of ms ++ gives_of ns
flat_append [] ns = refl
flat_append (m ∷ ms) ns = ap (λ l. m.gives ++ l) (flat_append ms ns) ∙ sym (append_assoc m.gives (gives_of ms) (gives_of ns))

pub targets_append : (ms ns : List Match) → targets_of (ms ++ ns) ≡ targets_of ms ++ targets_of ns
targets_append [] ns = refl
targets_append (m ∷ ms) ns = by m.candidate.target (targets_append ms ns)
  where
    by : (t : Option ℕ) → targets_of (ms ++ ns) ≡ targets_of ms ++ targets_of ns → Rattle.std.specs.List.cons_option t (targets_of (ms ++ ns)) ≡ Rattle.std.specs.List.cons_option t (targets_of ms) ++ targets_of ns
    by None e = e
    by (Some t) e = ap (λ l. t ∷ l) e

pub all_append : {A : Type 0} (P : A → Type 0) (xs ys : List A) → All P xs → All P ys → All P (xs ++ ys)
all_append P xs ys h g = go xs (recursion_from_All P xs h)
  where
    go : (xs : List _) → AllByRecursion P xs → All P (xs ++ ys)
    go [] r = g
    go (x ∷ xs) r = All-cons P x (xs ++ ys) r.0 (go xs r.1)

flipped : (v x : ℕ) → (v == x) ≡ (x == v)
flipped v x = grind (arith, nat_tests)

or_none : (a : Bool) → (a || false) ≡ a
or_none true = refl
or_none false = refl

-- one more mark
marked_source : (old new : List ℕ) (x : ℕ) → ((v : ℕ) → is_marked new v ≡ (v == x || is_marked old v)) → (v : ℕ) → is_marked new v ≡ (among (x ∷ []) v || is_marked old v)
marked_source old new x k v = k v ∙ ap (λ b. b || is_marked old v) (flipped v x ∙ sym (or_none (x == v)))

marked_target : (old new : List ℕ) (x : Option ℕ) → ((v : ℕ) → is_marked new v ≡ (marks_end x v || is_marked old v)) → (v : ℕ) → is_marked new v ≡ (among (Rattle.std.specs.List.cons_option x []) v || is_marked old v)
marked_target old new None k = k
marked_target old new (Some x) k = marked_source old new x k

-- a batch without INTs after it
alone : (batch : List (ℕ × Input)) (ints : List (ℕ × ScalarInput)) → ints ≡ [] → batch ++ as_inputs ints ≡ batch
alone batch ints e = ap (λ l. batch ++ as_inputs l) e ∙ append-nil batch

-- a match after others
module _ (o : Over) (c : Candidate) (gives : List Contribution) (ms : List Match) where
  abbrev m : Match
  m = record { candidate = c; gives = gives }

  gives_more : gives_of (ms ++ m ∷ []) ≡ gives_of ms ++ gives
  gives_more = flat_append ms (m ∷ []) ∙ ap (λ l. gives_of ms ++ l) (append-nil gives)

  may_more : All (MayTake o.frame.accums.slots) (gives_of ms) → All (MayTake o.frame.accums.slots) gives → All (MayTake o.frame.accums.slots) (gives_of (ms ++ m ∷ []))
  may_more h g = subst (All (MayTake o.frame.accums.slots)) (sym gives_more) (all_append (MayTake o.frame.accums.slots) (gives_of ms) gives h g)

  batched_more : (first second whole : List (ℕ × Input)) → whole ≡ first ++ second → AreBatched o.frame.accums.slots (gives_of ms) first → AreBatched o.frame.accums.slots gives second → AreBatched o.frame.accums.slots (gives_of (ms ++ m ∷ [])) whole
  batched_more first second whole e a b = ap (map as_given) e ∙ map-append as_given first second ∙ ap₂ ◌++◌ a b ∙ sym (map-append (targeted o.frame.accums.slots) (gives_of ms) gives) ∙ ap (map (targeted o.frame.accums.slots)) (sym gives_more)

  within_more : All (λ (x : Match). IsWithin (length o.vertices) x.candidate) ms → IsWithin (length o.vertices) c → All (λ (x : Match). IsWithin (length o.vertices) x.candidate) (ms ++ m ∷ [])
  within_more h w = all_append (λ (x : Match). IsWithin (length o.vertices) x.candidate) ms (m ∷ []) h (All-cons (λ (x : Match). IsWithin (length o.vertices) x.candidate) m [] w (All-nil (λ (x : Match). IsWithin (length o.vertices) x.candidate)))

module _ (o : Over) (c : Candidate) (go : Answer Wrong (List Match)) (old new : MatchBuffer) where
  pub passed : IsWithin (length o.vertices) c → Comes o.frame.accums.slots c go old.batches new.batches outcome.Passed → old.inputs ≡ [] → new.inputs ≡ old.inputs
      → ((v : ℕ) → is_marked new.sources v ≡ (v == c.source || is_marked old.sources v)) → ((v : ℕ) → is_marked new.targets v ≡ (marks_end c.target v || is_marked old.targets v)) → Tried o go old new None
  passed within comes none ints sources targets = (record { candidate = c; gives = comes.0 } ∷ [], comes.1, more, marked_source old.sources new.sources c.source sources, marked_target old.targets new.targets c.target targets)
    where
      more : (ms : List Match) → Wait o ms old.batches old.inputs → Wait o (ms ++ record { candidate = c; gives = comes.0 } ∷ []) new.batches new.inputs
      more ms h = record {
        may = may_more o c comes.0 ms h.may comes.2.may;
        batch = h.batch ++ comes.2.inputs;
        waiting = gained old.batches new.batches h.batch comes.2.inputs h.waiting comes.2.gained;
        batched = batched_more o c comes.0 ms (h.batch ++ as_inputs old.inputs) comes.2.inputs ((h.batch ++ comes.2.inputs) ++ as_inputs new.inputs)
            (alone (h.batch ++ comes.2.inputs) new.inputs (ints ∙ none) ∙ ap (λ l. l ++ comes.2.inputs) (sym (alone h.batch old.inputs none))) h.batched comes.2.are;
        within = within_more o c comes.0 ms h.within within;
      }

  pub filtered : Comes o.frame.accums.slots c go old.batches new.batches outcome.Filtered → new.inputs ≡ old.inputs → new.sources ≡ old.sources → new.targets ≡ old.targets → Tried o go old new None
  filtered comes ints sources targets = ([], comes.0, same, (λ v. ap (λ l. is_marked l v) sources), (λ v. ap (λ l. is_marked l v) targets))
    where
      same : (ms : List Match) → Wait o ms old.batches old.inputs → Wait o (ms ++ []) new.batches new.inputs
      same ms h = subst (λ (l : List Match). Wait o l new.batches new.inputs) (sym (append-nil ms)) (record {
        may = h.may;
        batch = h.batch;
        waiting = comes.1 ∙ h.waiting;
        batched = ap (λ l. map as_given (h.batch ++ as_inputs l)) ints ∙ h.batched;
        within = h.within;
      })

  pub faulted : (w : Stop) → Comes o.frame.accums.slots c go old.batches new.batches (outcome.Fault w) → new.sources ≡ old.sources → new.targets ≡ old.targets → Tried o go old new (Some w)
  faulted w comes sources targets = (comes.0, sources, targets)

-- a candidate that WHERE rejects changes nothing
pub filtered_same : (o : Over) (go : Answer Wrong (List Match)) (old : MatchBuffer) → go ≡ Gives [] → Tried o go old old None
filtered_same o go old e = ([], e, (λ ms h. subst (λ (l : List Match). Wait o l old.batches old.inputs) (sym (append-nil ms)) h), (λ v. refl), (λ v. refl))

-- ---- INTs and truth values that are read

module _ (o : Over) (c : Candidate) (go : Answer Wrong (List Match)) (contributed : Answer Wrong (List Contribution)) (more : List (ℕ × ScalarInput)) (old new : MatchBuffer) where
  pub ints_passed : IsWithin (length o.vertices) c → (ints : AreInputs o.frame.accums.slots contributed more) → go ≡ Gives (record { candidate = c; gives = ints.contributed } ∷ []) → new.inputs ≡ old.inputs ++ more → new.batches ≡ old.batches
      → ((v : ℕ) → is_marked new.sources v ≡ (v == c.source || is_marked old.sources v)) → ((v : ℕ) → is_marked new.targets v ≡ (marks_end c.target v || is_marked old.targets v)) → Tried o go old new None
  ints_passed within ints is added batches sources targets = (record { candidate = c; gives = ints.contributed } ∷ [], is, one_more, marked_source old.sources new.sources c.source sources, marked_target old.targets new.targets c.target targets)
    where
      behind : (batch : List (ℕ × Input)) → batch ++ as_inputs new.inputs ≡ (batch ++ as_inputs old.inputs) ++ as_inputs more
      behind batch = ap (λ l. batch ++ as_inputs l) added ∙ ap (λ l. batch ++ l) (map-append as_input old.inputs more) ∙ sym (append_assoc batch (as_inputs old.inputs) (as_inputs more))

      one_more : (ms : List Match) → Wait o ms old.batches old.inputs → Wait o (ms ++ record { candidate = c; gives = ints.contributed } ∷ []) new.batches new.inputs
      one_more ms h = record {
        may = may_more o c ints.contributed ms h.may ints.may;
        batch = h.batch;
        waiting = batches ∙ h.waiting;
        batched = batched_more o c ints.contributed ms (h.batch ++ as_inputs old.inputs) (as_inputs more) (h.batch ++ as_inputs new.inputs) (behind h.batch) h.batched ints.batched;
        within = within_more o c ints.contributed ms h.within within;
      }

-- if nothing but appending INTs to the batch happened before, trying from there is trying from the old state
pub tried_behind : {E : Type 0} (o : Over) (go : Answer Wrong (List Match)) (old same mid new : MatchBuffer) (result : Result (Option Stop) E) → same ≡ old → Settles same mid → IfOk result (Tried o go mid new) → IfOk result (Tried o go old new)
tried_behind o go old same mid new (Err x) e settles tried = tt
tried_behind o go old same mid new (Ok None) e settles tried = (
  tried.0,
  tried.1,
  (λ ms has. tried.2 ms (settles.wait o ms (subst (λ (f : MatchBuffer). Wait o ms f.batches f.inputs) (sym e) has))),
  (λ v. tried.3 v ∙ ap (λ l. among (sources_of tried.0) v || is_marked l v) (settles.sources ∙ ap (λ (f : MatchBuffer). f.sources) e)),
  (λ v. tried.4 v ∙ ap (λ l. among (targets_of tried.0) v || is_marked l v) (settles.targets ∙ ap (λ (f : MatchBuffer). f.targets) e)),
)
tried_behind o go old same mid new (Ok (Some w)) e settles tried = (tried.0, tried.1 ∙ settles.sources ∙ ap (λ (f : MatchBuffer). f.sources) e, tried.2 ∙ settles.targets ∙ ap (λ (f : MatchBuffer). f.targets) e)

pub as_long : (slots : Slots) (c : Candidate) (go : Answer Wrong (List Match)) (old new : List (List (ℕ × Input))) (r : Outcome) → Comes slots c go old new r → length new ≡ length old
as_long slots c go old new outcome.Passed h = h.2.gained.same
as_long slots c go old new outcome.Filtered h = ap length h.1
as_long slots c go old new (outcome.Fault w) h = ap length h.1

pub ruleset tried_laws = (passed, filtered, faulted, as_long, shaped_still)
