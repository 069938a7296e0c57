-- The orders of values, key rows and heaps are linear, and the inputs under a key row.
use Rattle.std.proofs.Common.{if◌then◌else◌, ◌≡◌, ℕ, suc, ◌≤◌, Bool, true, false, ◌||◌, List, [], ◌∷◌, ◌++◌, length, Ordering, Less, Equal, Greater, refl, sym, ap, ap₂, ◌∙◌, arith}
use Rattle.std.specs.Ordering.{is_eq, on}
use Rattle.std.specs.Cmp.{IsTotalOrder}
use Rattle.std.proofs.lemmas.Cmp.{then_total, on_total, back_total, lists_total}
use Rattle.gq_value.specs.Val.{Val, fields}
use Rattle.gq_value.specs.Order.{place}
use Rattle.gq_value.specs.OrderLaws.{place_total, place_same, then_equal}
use Rattle.gq_value.specs.Accums.{Given, One, Keyed}
use Rattle.gq_accum_laws.specs.Gather.{put, choose, distinct, among}
use Rattle.gq_accum_laws.specs.Holds.{row_cmp, heap_cmp, directed, field}
use Rattle.gq_accum_laws.specs.Inputs.{rows_in, own}
use Rattle.gq_accum_laws.proofs.GatherLaws.{IsLinear, cases}
use Rattle.gq_accum_laws.proofs.NumberLaws.{or_groups}

pub place_linear : IsLinear place
place_linear = record { total = place_total; only = place_same }

pub row_linear : IsLinear row_cmp
row_linear = record { total = lists_total place_total; only = rows_only }
  where
    less_apart : Less ≡ Equal → ⊥
    less_apart h = cc

    greater_apart : Greater ≡ Equal → ⊥
    greater_apart h = cc

    rows_only : (x y : List Val) → row_cmp x y ≡ Equal → x ≡ y
    rows_only [] [] h = refl
    rows_only [] (b ∷ y) h = absurd (less_apart h)
    rows_only (a ∷ x) [] h = absurd (greater_apart h)
    rows_only (a ∷ x) (b ∷ y) h = let s = then_equal (place a b) (row_cmp x y) h in ap₂ ◌∷◌ (place_same a b s.0) (rows_only x y s.1)

directed_total : (down : Bool) (n : ℕ) → IsTotalOrder (directed down (on (λ v. field n (fields v)) place))
directed_total true n = back_total (on_total (λ v. field n (fields v)) place_total)
directed_total false n = on_total (λ v. field n (fields v)) place_total

heap_total : (by : List (ℕ × Bool)) → IsTotalOrder (heap_cmp by)
heap_total [] = place_total
heap_total (f ∷ by) = then_total (directed_total f.1 f.0) (heap_total by)

heap_only : (by : List (ℕ × Bool)) (x y : Val) → heap_cmp by x y ≡ Equal → x ≡ y
heap_only [] x y h = place_same x y h
heap_only (f ∷ by) x y h = heap_only by x y (then_equal (directed f.1 (on (λ v. field f.0 (fields v)) place) x y) (heap_cmp by x y) h).1

pub heap_linear : (by : List (ℕ × Bool)) → IsLinear (heap_cmp by)
heap_linear by = record { total = heap_total by; only = heap_only by }

-- the elements of a gathered list
module _ {A : Type 0} (cmp : A → A → Ordering) (linear : IsLinear cmp) where
  among_put : (q x : A) (ys : List A) → among cmp q (put cmp false x ys) ≡ (is_eq (cmp q x) || among cmp q ys)
  among_put q x [] = refl
  among_put q x (y ∷ ys) = cases (cmp x y)
      (λ h. ap (λ o. among cmp q (choose o (x ∷ y ∷ ys) (y ∷ ys) (y ∷ put cmp false x ys))) h)
      (λ h. ap (λ o. among cmp q (choose o (x ∷ y ∷ ys) (y ∷ ys) (y ∷ put cmp false x ys))) h
      ∙ (sym (again (is_eq (cmp q y)) (among cmp q ys)) ∙ ap (λ v. is_eq (cmp q v) || (is_eq (cmp q y) || among cmp q ys)) (sym (linear.only x y h))))
      (λ h. ap (λ o. among cmp q (choose o (x ∷ y ∷ ys) (y ∷ ys) (y ∷ put cmp false x ys))) h
      ∙ ap (λ b. is_eq (cmp q y) || b) (among_put q x ys) ∙ turn (is_eq (cmp q y)) (is_eq (cmp q x)) (among cmp q ys))
    where
      again : (a b : Bool) → (a || (a || b)) ≡ (a || b)
      again true b = refl
      again false b = refl

      turn : (a b c : Bool) → (a || (b || c)) ≡ (b || (a || c))
      turn true true c = refl
      turn true false c = refl
      turn false true c = refl
      turn false false c = refl

  pub among_distinct : (q : A) (xs : List A) → among cmp q (distinct cmp xs) ≡ among cmp q xs
  among_distinct q [] = refl
  among_distinct q (x ∷ xs) = among_put q x (distinct cmp xs) ∙ ap (λ b. is_eq (cmp q x) || b) (among_distinct q xs)

  pub among-append : (q : A) (xs ys : List A) → among cmp q (xs ++ ys) ≡ (among cmp q xs || among cmp q ys)
  among-append q [] ys = refl
  among-append q (x ∷ xs) ys = ap (λ b. is_eq (cmp q x) || b) (among-append q xs ys) ∙ sym (or_groups (is_eq (cmp q x)) (among cmp q xs) (among cmp q ys))

-- a key row that none of the inputs has
true_apart : {P : Type 0} → true ≡ false → P
true_apart h = absurd (cc h)

pub own_none : (q : List Val) (xs : List Given) → among row_cmp q (rows_in xs) ≡ false → own q xs ≡ []
own_none q [] h = refl
own_none q (One v ∷ xs) h = own_none q xs h
own_none q (Keyed row ys ∷ xs) h = by (is_eq (row_cmp q row)) (own_none q xs) h
  where
    by : (b : Bool) → (among row_cmp q (rows_in xs) ≡ false → own q xs ≡ []) → (b || among row_cmp q (rows_in xs)) ≡ false → (if b then ys ∷ [] else []) ++ own q xs ≡ []
    by true r h = true_apart h
    by false r h = r h

-- no more than there are inputs
pub own_few : (q : List Val) (xs : List Given) → length (own q xs) ≤ length xs
own_few q [] = omega arith
own_few q (One v ∷ xs) = let h = own_few q xs in omega (arith, h)
own_few q (Keyed row ys ∷ xs) = by (is_eq (row_cmp q row)) (own_few q xs)
  where
    by : (b : Bool) → length (own q xs) ≤ length xs → length ((if b then ys ∷ [] else []) ++ own q xs) ≤ suc (length xs)
    by true h = omega (arith, h)
    by false h = omega (arith, h)
