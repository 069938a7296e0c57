-- PlaceLemmas: the suffix of a list from a place on.
use Rattle.std.proofs.Common.{◌≡◌, ◌+◌, ◌<◌, ℕ, List, ◌∷◌, length, get_or, drop, sym, ap, ◌∙◌}
use Rattle.std.proofs.lemmas.List.{drop_more}

pub left_at : {A : Type 0} (xs : List A) (n : ℕ) (a : A) → n < length xs → a ≡ get_or xs n a → drop n xs ≡ a ∷ drop (n + 1) xs
left_at xs n a low is = drop_more xs n a low ∙ ap (λ x. x ∷ drop (n + 1) xs) (sym is)
