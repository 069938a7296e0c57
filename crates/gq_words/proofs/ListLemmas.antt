-- Lists in which one element changes: sums over them, and lookups in them.
use Rattle.std.proofs.Common.{◌≡◌, ℕ, zero, suc, ◌+◌, ◌<◌, ◌≤◌, ◌≢◌, List, [], ◌∷◌, ◌++◌, length, map, set, get_or, take, slice_get, Some, None, Option, add-one, sym, refl, ap, ◌∙◌, arith}
use Rattle.std.specs.List.{sum_by}
use Rattle.std.proofs.lemmas.List.Sums.{sum_by-cons}
use Rattle.std.proofs.lemmas.Option.{slice_get_within}
use Rattle.std.proofs.lemmas.List.{length-map}
use mathlib.Core.Option.{some, some-injective, some-ne-none}
use lib.ListN.{get_elem?}

module _ {X : Type 0} where
  pub within : (xs : List X) (k : ℕ) (x : X) → get_elem? xs k ≡ some x → k < length xs
  within [] k x at = absurd (some-ne-none x (sym at))
  within (y ∷ ys) zero x at = omega arith
  within (y ∷ ys) (suc k) x at = let r = within ys k x at in omega arith

  pub read_at : (xs : List X) (i : ℕ) (x d : X) → get_elem? xs i ≡ some x → get_or xs i d ≡ x
  read_at [] i x d at = absurd (some-ne-none x (sym at))
  read_at (y ∷ ys) zero x d at = some-injective y x at
  read_at (y ∷ ys) (suc i) x d at = read_at ys i x d at

  pub take_at : (xs : List X) (i : ℕ) (x : X) → get_elem? xs i ≡ some x → take (i + 1) xs ≡ take i xs ++ x ∷ []
  take_at xs i x at = rw add-one (go xs i x at)
    where
      go : (xs : List X) (i : ℕ) (x : X) → get_elem? xs i ≡ some x → take (suc i) xs ≡ take i xs ++ x ∷ []
      go [] i x at = absurd (some-ne-none x (sym at))
      go (y ∷ ys) zero x at = ap (λ z. z ∷ []) (some-injective y x at)
      go (y ∷ ys) (suc i) x at = ap (λ r. y ∷ r) (go ys i x at)

  pub set-comm : (xs : List X) (i j : ℕ) (a b : X) → i ≢ j → set (set xs i a) j b ≡ set (set xs j b) i a
  set-comm [] i j a b apart = refl
  set-comm (x ∷ xs) zero zero a b apart = absurd (apart refl)
  set-comm (x ∷ xs) zero (suc j) a b apart = refl
  set-comm (x ∷ xs) (suc i) zero a b apart = refl
  set-comm (x ∷ xs) (suc i) (suc j) a b apart = ap (λ r. x ∷ r) (set-comm xs i j a b (λ e. apart (ap suc e)))

  module _ (f : X → ℕ) where
    pub sum-set : (xs : List X) (k : ℕ) (x y : X) → get_elem? xs k ≡ some x → sum_by f (set xs k y) + f x ≡ sum_by f xs + f y
    sum-set [] k x y at = absurd (some-ne-none x (sym at))
    sum-set (z ∷ zs) zero x y at = let e : f z ≡ f x = ap f (some-injective z x at) in omega (arith, sum_by-cons f y zs, sum_by-cons f z zs)
    sum-set (z ∷ zs) (suc k) x y at = let r = sum-set zs k x y at in omega (arith, sum_by-cons f z (set zs k y), sum_by-cons f z zs)

    pub part_of_sum : (xs : List X) (k : ℕ) (x : X) → get_elem? xs k ≡ some x → f x ≤ sum_by f xs
    part_of_sum [] k x at = absurd (some-ne-none x (sym at))
    part_of_sum (z ∷ zs) zero x at = let e : f z ≡ f x = ap f (some-injective z x at) in omega (arith, sum_by-cons f z zs)
    part_of_sum (z ∷ zs) (suc k) x at = let r = part_of_sum zs k x at in omega (arith, sum_by-cons f z zs)

    -- if a sum is 0, each part is
    pub part_of_none : (xs : List X) → sum_by f xs ≡ 0 → (k : ℕ) (x : X) → get_elem? xs k ≡ some x → f x ≡ 0
    part_of_none xs none k x at = let part = part_of_sum xs k x at in omega arith

    -- if each part is 0, the sum is
    pub sum_none : (xs : List X) → ((k : ℕ) (x : X) → get_elem? xs k ≡ some x → f x ≡ 0) → sum_by f xs ≡ 0
    sum_none [] none = refl
    sum_none (z ∷ zs) none = let here = none 0 z refl in let r = sum_none zs (λ k x at. none (suc k) x at) in omega (arith, sum_by-cons f z zs)

-- the first of a pair at a place
abbrev first_or : {X Y : Type 0} → X → Option (X × Y) → X
first_or d (Some p) = p.0
first_or d None = d

-- the second of a pair at a place
abbrev second_or : {X Y : Type 0} → Y → Option (X × Y) → Y
second_or d (Some p) = p.1
second_or d None = d

abbrev value_or : {X : Type 0} → X → Option X → X
value_or d (Some x) = x
value_or d None = d

module _ {X Y : Type 0} where
  pub place_within : (ps : List (X × Y)) (i : ℕ) (x : X) → slice_get (map (λ p. p.0) ps) i ≡ Some x → i < length ps
  place_within ps i x has = let in_firsts = slice_get_within (map (λ (p : X × Y). p.0) ps) i x has in omega (arith, length-map ps (λ (p : X × Y). p.0))

  pub same_first : (ps : List (X × Y)) (i : ℕ) (x z : X) (y : Y) → slice_get (map (λ p. p.0) ps) i ≡ Some x → slice_get ps i ≡ Some (z, y) → x ≡ z
  same_first [] i x z y has at = ap (value_or z) (sym has)
  same_first (p ∷ ps) zero x z y has at = ap (value_or x) (sym has) ∙ ap (first_or z) at
  same_first (p ∷ ps) (suc i) x z y has at = same_first ps i x z y has at

module _ {X : Type 0} where
  -- the second components, with one more appended
  pub seconds_at : (ps : List (X × ℕ)) (i : ℕ) (x : X) (n last : ℕ) → slice_get ps i ≡ Some (x, n) → get_or (map (λ p. p.1) ps ++ last ∷ []) i 0 ≡ n
  seconds_at [] i x n last at = let inside = slice_get_within [] i (x, n) at in absurd (omega arith)
  seconds_at (p ∷ ps) zero x n last at = ap (second_or n) at
  seconds_at (p ∷ ps) (suc i) x n last at = seconds_at ps i x n last at

  pub last_behind : (ps : List (X × ℕ)) (last : ℕ) → get_or (map (λ p. p.1) ps ++ last ∷ []) (length ps) 0 ≡ last
  last_behind [] last = refl
  last_behind (p ∷ ps) last = last_behind ps last
