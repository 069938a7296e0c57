-- ListLemmas: lists in which one element changes, two ways to read a list, and sums over lists.
use Rattle.std.proofs.Common.{◌≡◌, ℕ, zero, suc, ◌+◌, ◌<◌, ◌≤◌, ◌≢◌, ◌⊎◌, ⊎_elim, inl, inr, List, [], ◌∷◌, ◌++◌, length, map, set, get_or, slice_get, Some, None, Option, sym, refl, ap, ◌∙◌, subst, arith}
use Rattle.std.specs.List.{sum_by}
use Rattle.std.proofs.lemmas.List.Sums.{sum_by-cons}
use Rattle.std.proofs.lemmas.Option.{none-some, same_Some}
use mathlib.Core.Option.{some, some-injective, some-ne-none}
use lib.ListN.{get_elem?}
use Rattle.atomic_table.proofs.Lists.{at_set, at_snoc}

module _ {X : Type 0} where
  pub within : (xs : List X) (k : ℕ) (x : X) → get_elem? xs k ≡ some x → k < length xs
  within [] k x at = absurd (some-ne-none x (sym at))
  within (y ∷ ys) zero x at = omega arith
  within (y ∷ ys) (suc k) x at = let r = within ys k x at in omega arith

  -- the element at an index, by either reading
  pub got_at : (xs : List X) (k : ℕ) (x : X) → get_elem? xs k ≡ some x → slice_get xs k ≡ Some x
  got_at [] k x at = absurd (some-ne-none x (sym at))
  got_at (y ∷ ys) zero x at = ap Some (some-injective y x at)
  got_at (y ∷ ys) (suc k) x at = got_at ys k x at

  pub found_at : (xs : List X) (k : ℕ) (x : X) → slice_get xs k ≡ Some x → get_elem? xs k ≡ some x
  found_at [] k x at = absurd (none-some x at)
  found_at (y ∷ ys) zero x at = ap some (same_Some y x at)
  found_at (y ∷ ys) (suc k) x at = found_at ys k x at

  pub same_some : (x y : X) → some x ≡ some y → x ≡ y
  same_some x y e = some-injective x y e

  pub each_set : (P : X → Type 0) (xs : List X) (k : ℕ) (u : X) → P u → ((j : ℕ) (x : X) → get_elem? xs j ≡ some x → P x) → (j : ℕ) (x : X) → get_elem? (set xs k u) j ≡ some x → P x
  each_set P xs k u mine others j x at = ⊎_elim (λ (t : (j ≡ k) × (u ≡ x)). subst P t.1 mine) (λ (t : (j ≢ k) × (get_elem? xs j ≡ some x)). others j x t.1) (at_set xs k j u x at)

  pub each_more : (P : X → Type 0) (xs : List X) (u : X) → P u → ((j : ℕ) (x : X) → get_elem? xs j ≡ some x → P x) → (j : ℕ) (x : X) → get_elem? (xs ++ u ∷ []) j ≡ some x → P x
  each_more P xs u mine others j x at = ⊎_elim (others j x) (λ (t : u ≡ x). subst P t mine) (at_snoc xs u x j at)

  -- reading a list after it grew at its end
  pub get_front : (xs ys : List X) (k : ℕ) (x : X) → slice_get xs k ≡ Some x → slice_get (xs ++ ys) k ≡ Some x
  get_front [] ys k x at = absurd (none-some x at)
  get_front (y ∷ xs) ys zero x at = at
  get_front (y ∷ xs) ys (suc k) x at = get_front xs ys k x at

  pub get_last : (xs : List X) (k : ℕ) (x : X) → length xs ≡ k → slice_get (xs ++ x ∷ []) k ≡ Some x
  get_last [] zero x e = refl
  get_last [] (suc k) x e = absurd (omega arith)
  get_last (y ∷ xs) zero x e = absurd (omega arith)
  get_last (y ∷ xs) (suc k) x e = get_last xs k x (omega arith)

  -- an element of a list with one appended is one of the list, or the last
  pub get_split : (xs : List X) (x : X) (k : ℕ) (y : X) → slice_get (xs ++ x ∷ []) k ≡ Some y → (slice_get xs k ≡ Some y) ⊎ ((k ≡ length xs) × (x ≡ y))
  get_split [] x zero y at = inr (refl, same_Some x y at)
  get_split [] x (suc k) y at = absurd (none-some y at)
  get_split (z ∷ xs) x zero y at = inl at
  get_split (z ∷ xs) x (suc k) y at = ⊎_elim (λ h. inl h) (λ (h : (k ≡ length xs) × (x ≡ y)). inr (ap suc h.0, h.1)) (get_split xs x k y at)

  module _ (f : X → ℕ) where
    pub sum-set : (xs : List X) (k : ℕ) (x y : X) → get_elem? xs k ≡ some x → sum_by f (set xs k y) + f x ≡ sum_by f xs + f y
    sum-set [] k x y at = absurd (some-ne-none x (sym at))
    sum-set (z ∷ zs) zero x y at = let e : f z ≡ f x = ap f (some-injective z x at) in omega (arith, sum_by-cons f y zs, sum_by-cons f z zs)
    sum-set (z ∷ zs) (suc k) x y at = let r = sum-set zs k x y at in omega (arith, sum_by-cons f z (set zs k y), sum_by-cons f z zs)

    pub sum_same : (xs : List X) (k : ℕ) (x y : X) → get_elem? xs k ≡ some x → f y ≡ f x → sum_by f (set xs k y) ≡ sum_by f xs
    sum_same xs k x y at e = let r = sum-set xs k x y at in omega arith

    pub part_of_sum : (xs : List X) (k : ℕ) (x : X) → get_elem? xs k ≡ some x → f x ≤ sum_by f xs
    part_of_sum [] k x at = absurd (some-ne-none x (sym at))
    part_of_sum (z ∷ zs) zero x at = let e : f z ≡ f x = ap f (some-injective z x at) in omega (arith, sum_by-cons f z zs)
    part_of_sum (z ∷ zs) (suc k) x at = let r = part_of_sum zs k x at in omega (arith, sum_by-cons f z zs)

    -- if each part is 0, so is the sum
    pub sum_none : (xs : List X) → ((k : ℕ) (x : X) → get_elem? xs k ≡ some x → f x ≡ 0) → sum_by f xs ≡ 0
    sum_none [] none = refl
    sum_none (z ∷ zs) none = let here = none 0 z refl in let r = sum_none zs (λ k x at. none (suc k) x at) in omega (arith, sum_by-cons f z zs)

    -- a sum is at most another one if each part is
    pub sum_le : (g : X → ℕ) (xs : List X) → ((k : ℕ) (x : X) → get_elem? xs k ≡ some x → f x ≤ g x) → sum_by f xs ≤ sum_by g xs
    sum_le g [] le = omega arith
    sum_le g (z ∷ zs) le = let here = le 0 z refl in let r = sum_le g zs (λ k x at. le (suc k) x at) in omega (arith, sum_by-cons f z zs, sum_by-cons g z zs)

module _ {X Y : Type 0} (f : X → Y) where
  pub map-set : (xs : List X) (k : ℕ) (x : X) → map f (set xs k x) ≡ set (map f xs) k (f x)
  map-set [] k x = refl
  map-set (y ∷ ys) zero x = refl
  map-set (y ∷ ys) (suc k) x = ap (λ l. f y ∷ l) (map-set ys k x)

  pub got_mapped : (xs : List X) (k : ℕ) (x : X) → get_elem? xs k ≡ some x → slice_get (map f xs) k ≡ Some (f x)
  got_mapped [] k x at = absurd (some-ne-none x (sym at))
  got_mapped (y ∷ ys) zero x at = ap (λ z. Some (f z)) (some-injective y x at)
  got_mapped (y ∷ ys) (suc k) x at = got_mapped ys k x at

  -- an element of a mapped list comes from an element of the list
  pub from_mapped : (xs : List X) (k : ℕ) (y : Y) → slice_get (map f xs) k ≡ Some y → (x : X) × (get_elem? xs k ≡ some x) × (f x ≡ y)
  from_mapped [] k y at = absurd (none-some y at)
  from_mapped (x ∷ xs) zero y at = (x, refl, same_Some (f x) y at)
  from_mapped (x ∷ xs) (suc k) y at = from_mapped xs k y at
