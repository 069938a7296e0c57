-- The results of the four folds, over all inputs at once.
use Rattle.std.proofs.Common.{◌≡◌, ℕ, zero, suc, ◌≤◌, ◌⊎◌, inl, inr, max, min, bit_and, bit_or, List, [], ◌∷◌, sym, refl, ◌∙◌, subst, ⊎_elim, arith}
use Rattle.std.specs.List.{fold, All, Any, Contains}
use Rattle.std.specs.Int.{bit_at}
use Rattle.std.proofs.lemmas.List.Elements.{All-nil, All-cons, All-head, All-tail}
use Rattle.std.proofs.lemmas.Nat.Bits.{bit_at_or, bit_at_and}
use mathlib.Core.Logic.{dite}
use native.Mathlib.Decide.{ℕ_discrete}
use Rattle.gq_words.specs.declared.fold.Op.TheVariants.{Max, Min, Or, And}
use Rattle.gq_words.specs.Fold.{applied, IsGreatest, IsLeast, HasBit}

-- an element of a list with one of two numbers is an element of the list with both
taken_apart : (y w x r : ℕ) (xs : List ℕ) → (y ≡ w) ⊎ (y ≡ x) → Contains (y ∷ xs) r → Contains (w ∷ x ∷ xs) r
taken_apart y w x r xs which (zero, inside, is) = ⊎_elim (λ (e : y ≡ w). (zero, omega arith, sym e ∙ is)) (λ (e : y ≡ x). (suc zero, omega arith, sym e ∙ is)) which
taken_apart y w x r xs which (suc j, inside, is) = (suc (suc j), omega arith, is)

above : (w : ℕ) (xs : List ℕ) → w ≤ fold (applied Max) w xs
above w [] = omega arith
above w (x ∷ xs) = let r = above (max w x) xs in omega arith

all_above : (w : ℕ) (xs : List ℕ) → All (λ m. m ≤ fold (applied Max) w xs) xs
all_above w [] = All-nil (λ m. m ≤ w)
all_above w (x ∷ xs) = let r = above (max w x) xs in All-cons (λ m. m ≤ fold (applied Max) (max w x) xs) x xs (omega arith) (all_above (max w x) xs)

max_among : (w : ℕ) (xs : List ℕ) → Contains (w ∷ xs) (fold (applied Max) w xs)
max_among w [] = (zero, omega arith, refl)
max_among w (x ∷ xs) = taken_apart (max w x) w x _ xs (dite (ℕ_discrete (max w x) w) (λ e. inl e) (λ ne. inr (omega arith))) (max_among (max w x) xs)

pub greatest : (w : ℕ) (xs : List ℕ) → IsGreatest (fold (applied Max) w xs) (w ∷ xs)
greatest w xs = (All-cons (λ m. m ≤ fold (applied Max) w xs) w xs (above w xs) (all_above w xs), max_among w xs)

below : (w : ℕ) (xs : List ℕ) → fold (applied Min) w xs ≤ w
below w [] = omega arith
below w (x ∷ xs) = let r = below (min w x) xs in omega arith

all_below : (w : ℕ) (xs : List ℕ) → All (λ m. fold (applied Min) w xs ≤ m) xs
all_below w [] = All-nil (λ m. w ≤ m)
all_below w (x ∷ xs) = let r = below (min w x) xs in All-cons (λ m. fold (applied Min) (min w x) xs ≤ m) x xs (omega arith) (all_below (min w x) xs)

min_among : (w : ℕ) (xs : List ℕ) → Contains (w ∷ xs) (fold (applied Min) w xs)
min_among w [] = (zero, omega arith, refl)
min_among w (x ∷ xs) = taken_apart (min w x) w x _ xs (dite (ℕ_discrete (min w x) w) (λ e. inl e) (λ ne. inr (omega arith))) (min_among (min w x) xs)

pub least : (w : ℕ) (xs : List ℕ) → IsLeast (fold (applied Min) w xs) (w ∷ xs)
least w xs = (All-cons (λ m. fold (applied Min) w xs ≤ m) w xs (below w xs) (all_below w xs), min_among w xs)

module _ (k : ℕ) where
  one_has : (w x : ℕ) → HasBit k (bit_or w x) → HasBit k w ⊎ HasBit k x
  one_has w x has = let e = bit_at_or w x k in dite (ℕ_discrete (bit_at w k) 1) (λ h. inl h) (λ ne. inr (omega arith))

  left_has : (w x : ℕ) → HasBit k w → HasBit k (bit_or w x)
  left_has w x has = omega (arith, bit_at_or w x k)

  right_has : (w x : ℕ) → HasBit k x → HasBit k (bit_or w x)
  right_has w x has = omega (arith, bit_at_or w x k)

  any_apart : (w x : ℕ) (xs : List ℕ) → Any (HasBit k) (bit_or w x ∷ xs) → Any (HasBit k) (w ∷ x ∷ xs)
  any_apart w x xs (zero, y, inside, is, has) =
      ⊎_elim (λ (h : HasBit k w). (zero, w, omega arith, refl, h)) (λ (h : HasBit k x). (suc zero, x, omega arith, refl, h)) (one_has w x (subst (HasBit k) (sym is) has))
  any_apart w x xs (suc j, y, inside, is, has) = (suc (suc j), y, omega arith, is, has)

  any_together : (w x : ℕ) (xs : List ℕ) → Any (HasBit k) (w ∷ x ∷ xs) → Any (HasBit k) (bit_or w x ∷ xs)
  any_together w x xs (zero, y, inside, is, has) = (zero, bit_or w x, omega arith, refl, left_has w x (subst (HasBit k) (sym is) has))
  any_together w x xs (suc zero, y, inside, is, has) = (zero, bit_or w x, omega arith, refl, right_has w x (subst (HasBit k) (sym is) has))
  any_together w x xs (suc (suc j), y, inside, is, has) = (suc j, y, omega arith, is, has)

  pub some_has : (w : ℕ) (xs : List ℕ) → HasBit k (fold (applied Or) w xs) → Any (HasBit k) (w ∷ xs)
  some_has w [] has = (zero, w, omega arith, refl, has)
  some_has w (x ∷ xs) has = any_apart w x xs (some_has (bit_or w x) xs has)

  pub has_some : (w : ℕ) (xs : List ℕ) → Any (HasBit k) (w ∷ xs) → HasBit k (fold (applied Or) w xs)
  has_some w [] (zero, y, inside, is, has) = subst (HasBit k) (sym is) has
  has_some w [] (suc j, y, inside, is, has) = absurd (omega arith)
  has_some w (x ∷ xs) any = has_some (bit_or w x) xs (any_together w x xs any)

  pub all_have : (w : ℕ) (xs : List ℕ) → HasBit k (fold (applied And) w xs) → All (HasBit k) (w ∷ xs)
  all_have w [] has = All-cons (HasBit k) w [] has (All-nil (HasBit k))
  all_have w (x ∷ xs) has =
      let rest = all_have (bit_and w x) xs has in let both : HasBit k (bit_and w x) = All-head (HasBit k) (bit_and w x) xs rest in
      All-cons (HasBit k) w (x ∷ xs) (omega (arith, bit_at_and w x k)) (All-cons (HasBit k) x xs (omega (arith, bit_at_and w x k)) (All-tail (HasBit k) (bit_and w x) xs rest))

  pub have_all : (w : ℕ) (xs : List ℕ) → All (HasBit k) (w ∷ xs) → HasBit k (fold (applied And) w xs)
  have_all w [] all = All-head (HasBit k) w [] all
  have_all w (x ∷ xs) all =
      let rest = All-tail (HasBit k) w (x ∷ xs) all in
      let first : HasBit k w = All-head (HasBit k) w (x ∷ xs) all in let second : HasBit k x = All-head (HasBit k) x xs rest in
      have_all (bit_and w x) xs (All-cons (HasBit k) (bit_and w x) xs (omega (arith, bit_at_and w x k)) (All-tail (HasBit k) x xs rest))
