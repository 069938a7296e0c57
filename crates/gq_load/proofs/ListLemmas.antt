-- Suffixes and prefixes of lists.
use Rattle.std.proofs.Common.{◌≡◌, ℕ, zero, suc, ◌+◌, ◌<◌, ◌≤◌, List, [], ◌∷◌, ◌++◌, length, take, drop, Some, refl, sym, ap, ◌∙◌, arith, add-one, get_or, set}
use Rattle.std.specs.Prelude.{slice_get}
use Rattle.std.proofs.lemmas.List.{take_more}
use Rattle.std.proofs.lemmas.Option.{get_or_from_slice_get, slice_get_within, slice_get-get_or}
use Rattle.std.proofs.Math.Seq.{drop-cons}
use Rattle.std.proofs.Math.ListN.{drop_of_length-le}

-- the suffix from a place begins with the item at the place
pub from_place : {A : Type 0} (xs : List A) (i : ℕ) (x : A) → slice_get xs i ≡ Some x → drop i xs ≡ x ∷ drop (i + 1) xs
from_place {A} xs i x is =
    let low = slice_get_within xs i x is in
    drop-cons xs i x low ∙ ap (λ y. y ∷ drop (suc i) xs) (get_or_from_slice_get xs i x x is) ∙ ap (λ (n : ℕ). x ∷ drop n xs) (sym (add-one i))

pub to_place : {A : Type 0} (xs : List A) (i : ℕ) (x : A) → slice_get xs i ≡ Some x → take (i + 1) xs ≡ take i xs ++ x ∷ []
to_place {A} xs i x is = take_more xs i x (slice_get_within xs i x is) ∙ ap (λ y. take i xs ++ y ∷ []) (get_or_from_slice_get xs i x x is)

-- the suffix at the end is empty
pub at_end : {A : Type 0} (xs : List A) (i : ℕ) → length xs ≤ i → drop i xs ≡ []
at_end {A} xs i high = drop_of_length-le xs high

-- a read by index returns the item at that index
pub item_at : {A : Type 0} (xs : List A) (i : ℕ) (x : A) → i < length xs → x ≡ get_or xs i x → slice_get xs i ≡ Some x
item_at {A} xs i x low is = slice_get-get_or xs i x low ∙ ap (λ y. Some y) (sym is)

-- a prefix as long as the list is the list
pub take_all : {A : Type 0} (i : ℕ) (xs : List A) → length xs ≤ i → take i xs ≡ xs
take_all {A} zero [] high = refl
take_all {A} (suc i) [] high = refl
take_all {A} zero (x ∷ xs) high = absurd (omega arith)
take_all {A} (suc i) (x ∷ xs) high = ap (λ ys. x ∷ ys) (take_all i xs (omega arith))

-- the item at a place is the first one of the suffix from there
first_from : {A : Type 0} (xs : List A) (i : ℕ) → slice_get xs i ≡ slice_get (drop i xs) 0
first_from {A} [] zero = refl
first_from {A} [] (suc i) = refl
first_from {A} (x ∷ xs) zero = refl
first_from {A} (x ∷ xs) (suc i) = first_from xs i

-- lists with the same suffix from a place have the same item there
pub same_item : {A : Type 0} (xs ys : List A) (i : ℕ) → drop i xs ≡ drop i ys → slice_get xs i ≡ slice_get ys i
same_item {A} xs ys i same = first_from xs i ∙ ap (λ zs. slice_get zs 0) same ∙ sym (first_from ys i)

-- and the same suffix from the next place
behind : {A : Type 0} (xs : List A) (i : ℕ) → drop (i + 1) xs ≡ drop 1 (drop i xs)
behind {A} xs i = rw add-one (go xs i)
  where
    go : (xs : List A) (i : ℕ) → drop (suc i) xs ≡ drop 1 (drop i xs)
    go [] zero = refl
    go [] (suc i) = refl
    go (x ∷ xs) zero = refl
    go (x ∷ xs) (suc i) = go xs i

unset : {A : Type 0} (xs : List A) (i : ℕ) (y : A) → drop (suc i) (set xs i y) ≡ drop (suc i) xs
unset {A} [] zero y = refl
unset {A} [] (suc i) y = refl
unset {A} (x ∷ xs) zero y = refl
unset {A} (x ∷ xs) (suc i) y = unset xs i y

pub same_behind : {A : Type 0} (xs ys : List A) (i : ℕ) (y : A) → drop i xs ≡ drop i ys → drop (i + 1) (set xs i y) ≡ drop (i + 1) ys
same_behind {A} xs ys i y same =
    ap (λ (n : ℕ). drop n (set xs i y)) (add-one i) ∙ unset xs i y ∙ ap (λ (n : ℕ). drop n xs) (sym (add-one i)) ∙ behind xs i ∙ ap (drop 1) same ∙ sym (behind ys i)

-- a write changes the item at its index and no other
pub get_written : {A : Type 0} (xs : List A) (i : ℕ) (y : A) → i < length xs → slice_get (set xs i y) i ≡ Some y
get_written {A} [] i y low = absurd (omega arith)
get_written {A} (x ∷ xs) zero y low = refl
get_written {A} (x ∷ xs) (suc i) y low = get_written xs i y (omega arith)

pub get_other : {A : Type 0} (xs : List A) (i k : ℕ) (y : A) → k < i → slice_get (set xs i y) k ≡ slice_get xs k
get_other {A} [] i k y below = refl
get_other {A} (x ∷ xs) zero k y below = absurd (omega arith)
get_other {A} (x ∷ xs) (suc i) zero y below = refl
get_other {A} (x ∷ xs) (suc i) (suc k) y below = get_other xs i k y (omega arith)

pub same_some : {A : Type 0} (x y : A) → Some x ≡ Some y → x ≡ y
same_some {A} x y e = cc
