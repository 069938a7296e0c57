-- ScalarLemmas: inputs made of INTs are fed in order.
use Rattle.std.proofs.Common.{◌≡◌, ℕ, ◌+◌, ◌<◌, ◌≤◌, List, [], ◌∷◌, ◌++◌, map, take, set, length, get_or, refl, sym, ap, ap₂, subst, ◌∙◌, arith, length-append}
use Rattle.std.specs.Prelude.{ℤ, Some, slice_get}
use Rattle.std.specs.List.{All}
use Rattle.std.proofs.lemmas.List.{map-append, take_all, take_more, take-set-le, length-set, get_or-set_same}
use Rattle.std.proofs.lemmas.List.Elements.{All-nil, All-cons, All-head, All-tail}
use Rattle.std.proofs.lemmas.Option.{slice_get_within, get_or_from_slice_get}
use Rattle.gq_value.specs.AccumViews.{given}
use Rattle.gq_value.specs.declared.kind.Input.{Input}
use Rattle.gq_frame.specs.declared.slots.Slots.{Slots}
use Rattle.gq_frame.specs.declared.accums.Accums.{Accums}
use Rattle.gq_frame.specs.Slots.{slots_are}
use Rattle.gq_rules_meaning.specs.Blocks.{Contribution, slots_after}
use Rattle.gq_exec_feed.specs.Taking.{MayTake, as_given, targeted, AreBatched}
use Rattle.gq_exec_feed.specs.Feeding.{AreFed, AreAfter, TakesBatch}
use Rattle.gq_exec_feed.proofs.SlotLemmas.{slots_append}
use Rattle.gq_exec_feed.specs.Steps.{TakesOne}
use Rattle.gq_exec_feed.proofs.FeedLemmas.{chain_takes, none_after}
use Rattle.gq_exec_contribute.specs.declared.scalars.ScalarInput.{ScalarInput}
use Rattle.gq_exec_contribute.specs.Scalars.{as_input, as_inputs, made_of}

-- ---- two batches

pub joined : (f : ℕ) (old mid new : Accums) (xs ys : List Contribution) → AreAfter f old mid xs → AreAfter (f + length xs) mid new ys → AreAfter f old new (xs ++ ys)
joined f old mid new xs ys a b = record {
  slots = b.slots ∙ a.slots;
  after = b.after ∙ ap (slots_after ys 0) a.after ∙ sym (slots_append xs ys 0 (slots_are old));
  fed = let l = length-append xs ys in let e : (f + length xs) + length ys ≡ f + length (xs ++ ys) = omega (arith, l) in subst (λ (n : ℕ). AreFed n new) e b.fed;
}

-- the contributions of the first of two batches, and those of the second
record Parts (slots : Slots) (xs : List Contribution) (first second : List (ℕ × Input)) : Type 0 where
  front : List Contribution
  rest : List Contribution
  whole : xs ≡ front ++ rest
  in_first : AreBatched slots front first
  in_second : AreBatched slots rest second

parted : (slots : Slots) (xs : List Contribution) (first second : List (ℕ × Input)) → AreBatched slots xs (first ++ second) → Parts slots xs first second
parted slots xs [] second h = record { front = []; rest = xs; whole = refl; in_first = refl; in_second = h }
parted slots [] (b ∷ first) second h = absurd (cc h)
parted slots (x ∷ xs) (b ∷ first) second h =
    let t : map as_given (first ++ second) ≡ map (targeted slots) xs = cc h in let head : as_given b ≡ targeted slots x = cc h in let p = parted slots xs first second t in
    record { front = x ∷ p.front; rest = p.rest; whole = ap (λ l. x ∷ l) p.whole; in_first = ap₂ ◌∷◌ head p.in_first; in_second = p.in_second }

all_front : {A : Type 0} (P : A → Type 0) (xs ys : List A) → All P (xs ++ ys) → All P xs
all_front P [] ys h = All-nil P
all_front P (x ∷ xs) ys h = All-cons P x xs (All-head P x (xs ++ ys) h) (all_front P xs ys (All-tail P x (xs ++ ys) h))

all_rest : {A : Type 0} (P : A → Type 0) (xs ys : List A) → All P (xs ++ ys) → All P ys
all_rest P [] ys h = h
all_rest P (x ∷ xs) ys h = all_rest P xs ys (All-tail P x (xs ++ ys) h)

-- two batches, one after the other
pub both_taken : (old mid new : Accums) (first second : List (ℕ × Input)) → TakesBatch old mid first → TakesBatch mid new second → TakesBatch old new (first ++ second)
both_taken old mid new first second one two = record {
  each = λ f xs fed few may batched.
      let p = parted old.slots xs first second batched in let l = length-append p.front p.rest in let e = ap length p.whole in
      let may_parts : All (MayTake old.slots) (p.front ++ p.rest) = subst (All (MayTake old.slots)) p.whole may in
      let a = one.each f p.front fed (omega (arith, few, l, e)) (all_front (MayTake old.slots) p.front p.rest may_parts) p.in_first in
      let b = two.each (f + length p.front) p.rest a.fed (omega (arith, few, l, e)) (subst (λ (q : Slots). All (MayTake q) p.rest) (sym a.slots) (all_rest (MayTake old.slots) p.front p.rest may_parts))
      (subst (λ (q : Slots). AreBatched q p.rest second) (sym a.slots) p.in_second) in
      subst (AreAfter f old new) (sym p.whole) (joined f old mid new p.front p.rest a b);
}

-- ---- inputs in order

none_taken : (a : Accums) → TakesBatch a a []
none_taken a = record {
  each = λ f xs fed few may batched. of_none f xs fed batched;
}
  where
    of_none : (f : ℕ) (xs : List Contribution) → AreFed f a → AreBatched a.slots xs [] → AreAfter f a a xs
    of_none f [] fed batched = none_after f a fed
    of_none f (x ∷ xs) fed batched = absurd (cc batched)

-- feeding the input that a row stands for
pub made_taken : (old new : Accums) (t : ℕ) (i : Input) (x : ScalarInput) → i ≡ made_of x → TakesOne old new t (given i) → TakesBatch old new (as_inputs ((t, x) ∷ []))
made_taken old new t i x e h = subst (λ (j : Input). TakesBatch old new ((t, j) ∷ [])) e (chain_takes old new ((t, i) ∷ []) (new, h, refl))

-- the first i inputs are fed
pub record FedTo (old : Accums) (xs : List (ℕ × ScalarInput)) (i : ℕ) (now : Accums) : Type 0 where
  pub takes : TakesBatch old now (as_inputs (take i xs))

pub take_none : {A : Type 0} (xs : List A) → take 0 xs ≡ []
take_none [] = refl
take_none (x ∷ xs) = refl

pub fed_first : (old : Accums) (xs : List (ℕ × ScalarInput)) → FedTo old xs 0 old
fed_first old xs = record { takes = subst (λ l. TakesBatch old old (as_inputs l)) (sym (take_none xs)) (none_taken old) }

pub fed_more : (old was now : Accums) (xs : List (ℕ × ScalarInput)) (i : ℕ) (x : ℕ × ScalarInput) → i < length xs → x ≡ get_or xs i x → TakesBatch was now (as_inputs (x ∷ [])) → FedTo old xs i was → FedTo old xs (i + 1) now
fed_more old was now xs i x l is takes so = record {
  takes = subst (λ l. TakesBatch old now l) (sym (map-append as_input (take i xs) (x ∷ [])) ∙ ap as_inputs (ap (λ z. take i xs ++ z ∷ []) is ∙ sym (take_more xs i x l)))
      (both_taken old was now (as_inputs (take i xs)) (as_inputs (x ∷ [])) so.takes takes);
}

pub fed_next : (old was now : Accums) (xs : List (ℕ × ScalarInput)) (i : ℕ) (x : ℕ × ScalarInput) → slice_get xs i ≡ Some x → TakesBatch was now (as_inputs (x ∷ [])) → FedTo old xs i was → FedTo old xs (i + 1) now
fed_next old was now xs i x there takes so =
    fed_more old was now xs i x (slice_get_within xs i x there) (sym (get_or_from_slice_get xs i x x there)) takes so

pub fed_all : (old now : Accums) (xs : List (ℕ × ScalarInput)) (i : ℕ) → length xs ≤ i → FedTo old xs i now → TakesBatch old now (as_inputs xs)
fed_all old now xs i l so = subst (λ l. TakesBatch old now (as_inputs l)) (take_all i xs l) so.takes

pub ruleset feed_laws = (fed_first, fed_all)

-- ---- INTs in place of items

-- the first i items are replaced
pub record SetTo {A : Type 0} (f : ℤ → A) (xs : List ℤ) (old : List A) (i : ℕ) (now : List A) : Type 0 where
  pub len : length now ≡ length old
  pub done : take i now ≡ map f (take i xs)

pub set_first : {A : Type 0} (f : ℤ → A) (xs : List ℤ) (old : List A) → SetTo f xs old 0 old
set_first f xs old = record { len = refl; done = take_none old ∙ sym (ap (map f) (take_none xs)) }

pub set_next : {A : Type 0} (f : ℤ → A) (xs : List ℤ) (old was now : List A) (i : ℕ) (x d : ℤ) (z : A) → length old ≡ length xs → i < length xs → x ≡ get_or xs i d → z ≡ f x → now ≡ set was i z → SetTo f xs old i was → SetTo f xs old (i + 1) now
set_next f xs old was now i x d z long n is same set_so so =
    let e : now ≡ set was i (f x) = set_so ∙ ap (set was i) same in
    let m : i < length was = let k = so.len in omega (arith, long, n, k) in
    let long_now : length now ≡ length was = ap length e ∙ length-set was i (f x) in record {
      len = long_now ∙ so.len;
      done =
          take_more now i (f x) (omega (arith, m, long_now))
          ∙ ap₂ (λ l y. l ++ y ∷ []) (ap (take i) e ∙ take-set-le i was i (f x) (omega arith) ∙ so.done) (ap (λ l. get_or l i (f x)) e ∙ get_or-set_same was i (f x) (f x) m)
          ∙ sym (map-append f (take i xs) (x ∷ []))
          ∙ ap (map f) (ap (λ y. take i xs ++ y ∷ []) is ∙ sym (take_more xs i d n));
    }

pub set_all : {A : Type 0} (f : ℤ → A) (xs : List ℤ) (old now : List A) (i : ℕ) → length old ≡ length xs → length xs ≤ i → SetTo f xs old i now → now ≡ map f xs
set_all f xs old now i long l so =
    let k = so.len in sym (take_all i now (omega (arith, long, l, k))) ∙ so.done ∙ ap (map f) (take_all i xs l)

pub ruleset set_laws = (set_next)
