-- Digits without trailing zeros.
use Rattle.std.proofs.Common.{◌≡◌, ◌≢◌, ℕ, ◌+◌, ◌≤◌, List, [], ◌∷◌, ◌++◌, length, take, get_or, refl, ap, sym, ◌∙◌, arith}
use Rattle.std.proofs.lemmas.List.{take_more, take_all}
use Rattle.std.proofs.lemmas.Bool.{ne_eqb}
use Rattle.gq_json.specs.Average.{digit_before, trimmed}

-- a trailing zero is removed
trimmed-zero : (ds : List ℕ) → trimmed (ds ++ 48 ∷ []) ≡ trimmed ds
trimmed-zero [] = refl
trimmed-zero (d ∷ ds) = ap (digit_before d) (trimmed-zero ds)

-- digits that end in another digit are kept
trimmed-other : (ds : List ℕ) (d : ℕ) → d ≢ 48 → trimmed (ds ++ d ∷ []) ≡ ds ++ d ∷ []
trimmed-other [] d other = simp (ne_eqb d 48 other)
trimmed-other (e ∷ []) d other = ap (digit_before e) (trimmed-other [] d other)
trimmed-other (e ∷ f ∷ ds) d other = ap (digit_before e) (trimmed-other (f ∷ ds) d other)

-- the same for the first n digits, if the last of them is a zero
pub trim-step : (ds : List ℕ) (n m : ℕ) → n ≤ length ds → n ≡ m + 1 → get_or ds m 0 ≡ 48 → trimmed (take n ds) ≡ trimmed ds → trimmed (take m ds) ≡ trimmed ds
trim-step ds n m within next is so_far =
    sym (trimmed-zero (take m ds))
    ∙ ap (λ d. trimmed (take m ds ++ d ∷ [])) (sym is)
    ∙ ap trimmed (sym (take_more ds m 0 (omega arith)))
    ∙ ap (λ k. trimmed (take k ds)) (sym next)
    ∙ so_far

-- if the last of them isn't a zero, they are the result
pub trim-end : (ds : List ℕ) (n m : ℕ) → n ≤ length ds → n ≡ m + 1 → get_or ds m 0 ≢ 48 → trimmed (take n ds) ≡ trimmed ds → take n ds ≡ trimmed ds
trim-end ds n m within next other so_far =
    let more : take n ds ≡ take m ds ++ get_or ds m 0 ∷ [] = ap (λ k. take k ds) next ∙ take_more ds m 0 (omega arith) in
    more ∙ sym (trimmed-other (take m ds) (get_or ds m 0) other) ∙ ap trimmed (sym more) ∙ so_far

-- and if there are none
pub trim-none : (ds : List ℕ) (n : ℕ) → n ≡ 0 → trimmed (take n ds) ≡ trimmed ds → take n ds ≡ trimmed ds
trim-none ds n none so_far = ap (λ k. take k ds) none ∙ ap (λ k. trimmed (take k ds)) (sym none) ∙ so_far

-- all digits
pub trim-all : (ds : List ℕ) → trimmed (take (length ds) ds) ≡ trimmed ds
trim-all ds = ap trimmed (take_all (length ds) ds (omega arith))

pub ruleset trims = (trim-step, trim-end, trim-none, trim-all)
