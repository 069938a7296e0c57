-- PlaceLemmas: parts of a list, and lists with one item replaced.
use Rattle.std.proofs.Common.{◌≡◌, ℕ, zero, suc, ◌+◌, ◌<◌, ◌≤◌, List, [], ◌∷◌, take, drop, length, set, get_or, slice_get, Option, Some, None, Result, Ok, Err, IfOk, IfSome, refl, sym, ap, subst, ◌∙◌, arith}

pub same_some : {A : Type 0} {a b : A} → Some a ≡ Some b → a ≡ b
same_some h = cc

pub none_apart : {A P : Type 0} (x : A) → None ≡ Some x → P
none_apart x h = absurd (cc h)

-- what holds of what was found holds of what is needed
module _ {A E : Type 0} (P : A → Type 0) where
  pub if_needed : (o : Option A) (r : Result A E) → IfSome o P → IfOk r (λ x. o ≡ Some x) → IfOk r P
  if_needed (Some y) (Ok x) h e = subst P (same_some e) h
  if_needed None (Ok x) h e = none_apart x e
  if_needed o (Err e) h is = tt

module _ {A : Type 0} where
  pub take_set_front : (xs : List A) (v t : ℕ) (d : A) → v < t → take t (set xs v d) ≡ set (take t xs) v d
  take_set_front xs v zero d h = absurd (omega (arith, h))
  take_set_front [] v (suc t) d h = refl
  take_set_front (x ∷ xs) zero (suc t) d h = refl
  take_set_front (x ∷ xs) (suc v) (suc t) d h = ap (λ l. x ∷ l) (take_set_front xs v t d (omega (arith, h)))

  pub drop_set_front : (xs : List A) (v t : ℕ) (d : A) → v < t → drop t (set xs v d) ≡ drop t xs
  drop_set_front xs v zero d h = absurd (omega (arith, h))
  drop_set_front [] v (suc t) d h = refl
  drop_set_front (x ∷ xs) zero (suc t) d h = refl
  drop_set_front (x ∷ xs) (suc v) (suc t) d h = drop_set_front xs v t d (omega (arith, h))

  pub take_set_behind : (xs : List A) (t x : ℕ) (d : A) → t ≤ x → take t (set xs x d) ≡ take t xs
  take_set_behind xs zero x d h = refl
  take_set_behind [] (suc t) x d h = refl
  take_set_behind (y ∷ xs) (suc t) zero d h = absurd (omega (arith, h))
  take_set_behind (y ∷ xs) (suc t) (suc x) d h = ap (λ l. y ∷ l) (take_set_behind xs t x d (omega (arith, h)))

  pub drop_set_behind : (xs : List A) (t x : ℕ) (d : A) → drop t (set xs (t + x) d) ≡ set (drop t xs) x d
  drop_set_behind xs zero x d = let e : 0 + x ≡ x = omega arith in ap (λ (n : ℕ). set xs n d) e
  drop_set_behind [] (suc t) x d = refl
  drop_set_behind (y ∷ xs) (suc t) x d = let e : suc t + x ≡ suc (t + x) = omega arith in ap (λ (n : ℕ). drop (suc t) (set (y ∷ xs) n d)) e ∙ drop_set_behind xs t x d

  pub get_taken : (xs : List A) (t i : ℕ) (x : A) → slice_get (take t xs) i ≡ Some x → (i < t) × (slice_get xs i ≡ Some x)
  get_taken xs zero i x h = none_apart x h
  get_taken [] (suc t) i x h = none_apart x h
  get_taken (y ∷ xs) (suc t) zero x h = (omega arith, h)
  get_taken (y ∷ xs) (suc t) (suc i) x h = let r = get_taken xs t i x h in (let l = r.0 in omega (arith, l), r.1)

  pub taken_get : (xs : List A) (t i : ℕ) → i < t → slice_get (take t xs) i ≡ slice_get xs i
  taken_get xs zero i h = absurd (omega (arith, h))
  taken_get [] (suc t) i h = refl
  taken_get (y ∷ xs) (suc t) zero h = refl
  taken_get (y ∷ xs) (suc t) (suc i) h = taken_get xs t i (omega (arith, h))

  pub get_dropped : (xs : List A) (t i : ℕ) → slice_get (drop t xs) i ≡ slice_get xs (t + i)
  get_dropped xs zero i = let e : i ≡ 0 + i = omega arith in ap (slice_get xs) e
  get_dropped [] (suc t) i = refl
  get_dropped (y ∷ xs) (suc t) i = get_dropped xs t i ∙ (let e : suc (t + i) ≡ suc t + i = omega arith in ap (slice_get (y ∷ xs)) e)

  -- an item by its index
  pub get_some : (xs : List A) (i : ℕ) (x : A) → i < length xs → x ≡ get_or xs i x → slice_get xs i ≡ Some x
  get_some [] i x l h = absurd (omega (arith, l))
  get_some (y ∷ xs) zero x l h = ap Some (sym h)
  get_some (y ∷ xs) (suc i) x l h = get_some xs i x (omega (arith, l)) h

  pub drop_item : (xs : List A) (i : ℕ) (x : A) → slice_get xs i ≡ Some x → drop i xs ≡ x ∷ drop (suc i) xs
  drop_item [] i x h = none_apart x h
  drop_item (y ∷ xs) zero x h = ap (λ z. z ∷ xs) (same_some h)
  drop_item (y ∷ xs) (suc i) x h = drop_item xs i x h

  pub drop_all : (xs : List A) (i : ℕ) → length xs ≤ i → drop i xs ≡ []
  drop_all [] zero h = refl
  drop_all [] (suc i) h = refl
  drop_all (x ∷ xs) zero h = absurd (omega (arith, h))
  drop_all (x ∷ xs) (suc i) h = drop_all xs i (omega (arith, h))

  -- how many there are
  pub length_taken : (xs : List A) (t : ℕ) → length (take t xs) ≤ length xs
  length_taken xs zero = omega arith
  length_taken [] (suc t) = omega arith
  length_taken (x ∷ xs) (suc t) = let h = length_taken xs t in omega (arith, h)

  pub length_dropped : (xs : List A) (t r : ℕ) → length xs ≤ t + r → length (drop t xs) ≤ r
  length_dropped xs zero r l = omega (arith, l)
  length_dropped [] (suc t) r l = omega arith
  length_dropped (x ∷ xs) (suc t) r l = length_dropped xs t r (omega (arith, l))

  pub past_end : (xs : List A) (i : ℕ) → slice_get xs i ≡ None → length xs ≤ i
  past_end [] i h = omega arith
  past_end (x ∷ xs) zero h = absurd (cc h)
  past_end (x ∷ xs) (suc i) h = let l = past_end xs i h in omega (arith, l)

  pub within_end : (xs : List A) (i : ℕ) (x : A) → slice_get xs i ≡ Some x → i < length xs
  within_end [] i x h = none_apart x h
  within_end (y ∷ xs) zero x h = omega arith
  within_end (y ∷ xs) (suc i) x h = let l = within_end xs i x h in omega (arith, l)
