-- TargetLemmas: items of lists by their index, and the number of targets of the first slots.
use Rattle.std.proofs.Common.{◌≡◌, ℕ, zero, suc, ◌+◌, ◌*◌, ◌^◌, ◌<◌, ◌≤◌, List, [], ◌∷◌, ◌++◌, take, length, get_or, Some, None, refl, sym, ap, ◌∙◌, arith}
use Rattle.std.specs.List.{slice_get}
use Rattle.gq_value.specs.declared.kind.Slot.{Slot}
use Rattle.gq_accum_laws.specs.Targets.{target_count}
use Rattle.gq_frame.specs.Targets.{attached_in, targets_of}

some_is : {A : Type 0} {a b : A} → Some a ≡ Some b → a ≡ b
some_is h = cc

none_apart : {A P : Type 0} (x : A) → None ≡ Some x → P
none_apart x h = absurd (cc h)

-- one number below the next, or the last
pub split : {G : Type 0} (v j : ℕ) → v < suc j → (v < j → G) → (v ≡ j → G) → G
split zero zero h f g = g refl
split zero (suc j) h f g = f (omega arith)
split (suc v) zero h f g = absurd (omega (arith, h))
split (suc v) (suc j) h f g = split v j (omega (arith, h)) (λ l. f (omega (arith, l))) (λ e. g (ap suc e))

module _ {A : Type 0} where
  pub get_front : (xs ys : List A) (i : ℕ) (x : A) → slice_get xs i ≡ Some x → slice_get (xs ++ ys) i ≡ Some x
  get_front [] ys i x h = none_apart x h
  get_front (y ∷ xs) ys zero x h = h
  get_front (y ∷ xs) ys (suc i) x h = get_front xs ys i x h

  pub get_last : (xs : List A) (x : A) → slice_get (xs ++ x ∷ []) (length xs) ≡ Some x
  get_last [] x = refl
  get_last (y ∷ xs) x = get_last xs x

  pub get_some : (xs : List A) (i : ℕ) (x : A) → i < length xs → x ≡ get_or xs i x → slice_get xs i ≡ Some x
  get_some [] i x l h = absurd (omega (arith, l))
  get_some (y ∷ xs) zero x l h = ap Some (sym h)
  get_some (y ∷ xs) (suc i) x l h = get_some xs i x (omega (arith, l)) h

  pub get_below : (xs : List A) (i : ℕ) (x : A) → slice_get xs i ≡ Some x → i < length xs
  get_below [] i x h = none_apart x h
  get_below (y ∷ xs) zero x h = omega arith
  get_below (y ∷ xs) (suc i) x h = let l = get_below xs i x h in omega (arith, l)

  pub take_more : (xs : List A) (i : ℕ) (x : A) → i < length xs → x ≡ get_or xs i x → take (i + 1) xs ≡ take i xs ++ x ∷ []
  take_more xs i x l h = (let e : i + 1 ≡ suc i = omega arith in ap (λ n. take n xs) e) ∙ first xs i l h
    where
      first : (xs : List A) (i : ℕ) → i < length xs → x ≡ get_or xs i x → take (suc i) xs ≡ take i xs ++ x ∷ []
      first [] i l h = absurd (omega (arith, l))
      first (y ∷ xs) zero l h = ap (λ z. z ∷ []) (sym h)
      first (y ∷ xs) (suc i) l h = ap (λ t. y ∷ t) (first xs i (omega (arith, l)) h)

-- ---- counts

pub attached_take : (ds : List Slot) (i : ℕ) → take i (attached_in ds) ≡ attached_in (take i ds)
attached_take ds zero = refl
attached_take [] (suc i) = refl
attached_take (d ∷ ds) (suc i) = ap (λ t. d.attached ∷ t) (attached_take ds i)

-- one slot more
pub count_more : (vertices : ℕ) (ds : List Slot) (i : ℕ) (s : Slot) → slice_get ds i ≡ Some s → target_count vertices (take (suc i) (attached_in ds)) ≡ target_count vertices (take i (attached_in ds)) + targets_of vertices s
count_more vertices [] i s h = none_apart s h
count_more vertices (d ∷ ds) zero s h = let e : targets_of vertices d ≡ targets_of vertices s = ap (targets_of vertices) (some_is h) in omega (arith, e)
count_more vertices (d ∷ ds) (suc i) s h = let e = count_more vertices ds i s h in omega (arith, e)

count_next : (vertices : ℕ) (ds : List Slot) (s : Slot) → target_count vertices (attached_in (ds ++ s ∷ [])) ≡ target_count vertices (attached_in ds) + targets_of vertices s
count_next vertices [] s = omega arith
count_next vertices (d ∷ ds) s = let e = count_next vertices ds s in omega (arith, e)

-- the number of targets of the slots visited so far
pub record CountsTo (vertices : ℕ) (ds : List Slot) (i n : ℕ) : Type 0 where
  pub count : n ≡ target_count vertices (attached_in (take i ds))
  pub few : n ≤ i * 2 ^ 32

pub counts_more : (vertices : ℕ) (ds : List Slot) (i n m : ℕ) (s : Slot) → i < length ds → s ≡ get_or ds i s → m ≤ 2 ^ 32 → m ≡ targets_of vertices s → CountsTo vertices ds i n → CountsTo vertices ds (i + 1) (n + m)
counts_more vertices ds i n m s l is small e c = record {
  count = (let f : n + m ≡ target_count vertices (attached_in (take i ds)) + targets_of vertices s = (let g = c.count in omega (arith, g, e)) in f)
      ∙ sym (ap (λ t. target_count vertices (attached_in t)) (take_more ds i s l is) ∙ count_next vertices (take i ds) s);
  few = let f = c.few in omega (arith, f, small);
}

take_whole : {A : Type 0} (xs : List A) (i : ℕ) → length xs ≤ i → take i xs ≡ xs
take_whole [] zero h = refl
take_whole [] (suc i) h = refl
take_whole (x ∷ xs) zero h = absurd (omega (arith, h))
take_whole (x ∷ xs) (suc i) h = ap (λ t. x ∷ t) (take_whole xs i (omega (arith, h)))

-- the number of targets of all earlier slots
pub counts_all : (vertices : ℕ) (ds items : List Slot) (at i n m v : ℕ) → items ≡ ds → length (take at items) ≤ i → m ≡ v → CountsTo vertices (take at items) i n → n + m ≡ target_count vertices (take at (attached_in ds)) + v
counts_all vertices ds items at i n m v e l f c =
    let a : n ≡ target_count vertices (take at (attached_in ds)) =
    c.count ∙ ap (λ t. target_count vertices (attached_in t)) (take_whole (take at items) i l) ∙ ap (λ t. target_count vertices (attached_in (take at t))) e ∙ ap (target_count vertices) (sym (attached_take ds at)) in
    omega (arith, a, f)
