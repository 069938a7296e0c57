-- Lists in another order, by steps.
use Rattle.std.proofs.Common.{◌≡◌, ℕ, zero, suc, ◌<◌, List, [], ◌∷◌, ◌++◌, map, set, get_or, length, refl, sym, ap, ◌∙◌, arith}
use Rattle.std.specs.List.{swap, flat_map}
use Rattle.std.specs.List.Sorted.{IsPermutation}
use Rattle.std.proofs.lemmas.List.Sorted.{IsPermutation-keeps}
use Rattle.gq_accum_laws.specs.Gather.{into}

pub data Shuffle {A : Type 0} : List A → List A → Type 0 where
  same : (xs : List A) → Shuffle xs xs
  skip : (x : A) {xs ys : List A} → Shuffle xs ys → Shuffle (x ∷ xs) (x ∷ ys)
  cross : (x y : A) (xs : List A) → Shuffle (x ∷ y ∷ xs) (y ∷ x ∷ xs)
  chain : {xs ys zs : List A} → Shuffle xs ys → Shuffle ys zs → Shuffle xs zs

module _ {A : Type 0} where
  far : (x d : A) (l : List A) (j : ℕ) → j < length l → Shuffle (x ∷ l) (get_or l j d ∷ set l j x)
  far x d [] j h = absurd (omega (arith, h))
  far x d (y ∷ l) zero h = cross x y l
  far x d (y ∷ l) (suc j) h = chain (cross x y l) (chain (skip y (far x d l j (omega (arith, h)))) (cross y (get_or l j d) (set l j x)))

  exchanged : (l : List A) (i j : ℕ) (d : A) → i < length l → j < length l → Shuffle l (set (set l i (get_or l j d)) j (get_or l i d))
  exchanged [] i j d h k = absurd (omega (arith, h))
  exchanged (x ∷ l) zero zero d h k = same (x ∷ l)
  exchanged (x ∷ l) zero (suc j) d h k = far x d l j (omega (arith, k))
  exchanged (x ∷ l) (suc i) zero d h k = far x d l i (omega (arith, h))
  exchanged (x ∷ l) (suc i) (suc j) d h k = skip x (exchanged l i j d (omega (arith, h)) (omega (arith, k)))

  swapped : (l : List A) (i j : ℕ) → i < length l → j < length l → Shuffle l (swap l i j)
  swapped [] i j h k = absurd (omega (arith, h))
  swapped (x ∷ l) i j h k = exchanged (x ∷ l) i j x h k

  pub from_permutation : (xs ys : List A) → IsPermutation xs ys → Shuffle xs ys
  from_permutation xs ys p = IsPermutation-keeps xs (Shuffle xs) (same xs) (λ l i j h k s. chain s (swapped l i j h k)) ys p

  pub map_shuffled : {B : Type 0} (f : A → B) {xs ys : List A} → Shuffle xs ys → Shuffle (map f xs) (map f ys)
  map_shuffled f (same xs) = same (map f xs)
  map_shuffled f (skip x s) = skip (f x) (map_shuffled f s)
  map_shuffled f (cross x y xs) = cross (f x) (f y) (map f xs)
  map_shuffled f (chain s t) = chain (map_shuffled f s) (map_shuffled f t)

  pub behind : (c : List A) {xs ys : List A} → Shuffle xs ys → Shuffle (c ++ xs) (c ++ ys)
  behind [] s = s
  behind (x ∷ c) s = skip x (behind c s)

  pub length_shuffled : {xs ys : List A} → Shuffle xs ys → length xs ≡ length ys
  length_shuffled (same xs) = refl
  length_shuffled (skip x s) = ap suc (length_shuffled s)
  length_shuffled (cross x y xs) = refl
  length_shuffled (chain s t) = length_shuffled s ∙ length_shuffled t

  -- gathering by a step that commutes gives the same in every order
  module _ {B : Type 0} (f : A → B → B) (commutes : (x y : A) (z : B) → f x (f y z) ≡ f y (f x z)) where
    pub into_shuffled : {xs ys : List A} → Shuffle xs ys → (z : B) → into f xs z ≡ into f ys z
    into_shuffled (same xs) z = refl
    into_shuffled (skip x s) z = ap (f x) (into_shuffled s z)
    into_shuffled (cross x y xs) z = commutes x y (into f xs z)
    into_shuffled (chain s t) z = into_shuffled s z ∙ into_shuffled t z

    pub past : (x : A) (ys : List A) (z : B) → into f ys (f x z) ≡ f x (into f ys z)
    past x [] z = refl
    past x (y ∷ ys) z = ap (f y) (past x ys z) ∙ commutes y x (into f ys z)

    pub swap_into : (xs ys : List A) (z : B) → into f xs (into f ys z) ≡ into f ys (into f xs z)
    swap_into [] ys z = refl
    swap_into (x ∷ xs) ys z = ap (f x) (swap_into xs ys z) ∙ sym (past x ys (into f xs z))

    pub into-append : (xs ys : List A) (z : B) → into f (xs ++ ys) z ≡ into f xs (into f ys z)
    into-append [] ys z = refl
    into-append (x ∷ xs) ys z = ap (f x) (into-append xs ys z)

    -- and one after the other
    pub into_cut : (xs ys : List A) (z : B) → into f (xs ++ ys) z ≡ into f ys (into f xs z)
    into_cut xs ys z = into-append xs ys z ∙ swap_into xs ys z

module _ {B : Type 0} where
  past_part : (x : B) (b c : List B) → Shuffle (x ∷ (b ++ c)) (b ++ (x ∷ c))
  past_part x [] c = same (x ∷ c)
  past_part x (y ∷ b) c = chain (cross x y (b ++ c)) (skip y (past_part x b c))

  parts_cross : (a b c : List B) → Shuffle (a ++ (b ++ c)) (b ++ (a ++ c))
  parts_cross [] b c = same (b ++ c)
  parts_cross (x ∷ a) b c = chain (skip x (parts_cross a b c)) (past_part x b (a ++ c))

  to_end : (b : List B) → Shuffle b (b ++ [])
  to_end [] = same []
  to_end (x ∷ b) = skip x (to_end b)

  -- two lists, the one before the other
  pub turned : (a b : List B) → Shuffle (a ++ b) (b ++ a)
  turned [] b = to_end b
  turned (x ∷ a) b = chain (skip x (turned a b)) (past_part x b a)

-- the results of a flat map, in another order
pub flat_shuffled : {A B : Type 0} (f : A → List B) {xs ys : List A} → Shuffle xs ys → Shuffle (flat_map f xs) (flat_map f ys)
flat_shuffled f (same xs) = same (flat_map f xs)
flat_shuffled f (skip x s) = behind (f x) (flat_shuffled f s)
flat_shuffled f (cross x y xs) = parts_cross (f x) (f y) (flat_map f xs)
flat_shuffled f (chain s t) = chain (flat_shuffled f s) (flat_shuffled f t)
