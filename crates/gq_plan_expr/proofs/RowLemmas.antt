-- RowLemmas: lists that are built from the left.
use Rattle.std.proofs.Common.{◌≡◌, ◌+◌, ◌<◌, ℕ, List, [], ◌∷◌, ◌++◌, length, get_or, drop, refl, sym, ap, ◌∙◌}
use Rattle.std.proofs.lemmas.List.{drop_more}

pub row_one : {A : Type 0} (xs : List A) (a : A) (rest : List A) → xs ++ a ∷ rest ≡ (xs ++ a ∷ []) ++ rest
row_one [] a rest = refl
row_one (x ∷ xs) a rest = ap (λ l. x ∷ l) (row_one xs a rest)

pub row_all : {A : Type 0} (xs : List A) → xs ++ [] ≡ xs
row_all [] = refl
row_all (x ∷ xs) = ap (λ l. x ∷ l) (row_all xs)

-- the item at an index is the first one of the suffix from there
pub left_at : {A : Type 0} (xs : List A) (n : ℕ) (a : A) → n < length xs → a ≡ get_or xs n a → drop n xs ≡ a ∷ drop (n + 1) xs
left_at xs n a low is = drop_more xs n a low ∙ ap (λ x. x ∷ drop (n + 1) xs) (sym is)

pub ruleset row_laws = (row_one, row_all)
