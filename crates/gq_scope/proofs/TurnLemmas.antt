-- TurnLemmas: names in reverse order, as they are added and cut at their end.
use Rattle.std.proofs.Common.{ℕ, ◌-◌, ◌≤◌, ◌≡◌, List, [], ◌∷◌, ◌++◌, length, take, drop, reverse, ap, sym, ◌∙◌, arith}
use Rattle.std.proofs.Math.Seq.{drop-append_seam}
use Rattle.std.proofs.lemmas.List.{reverse-append, length-reverse, length-drop, take-append-drop}

pub turned_push : {A : Type 0} (xs : List A) (a : A) → reverse (xs ++ a ∷ []) ≡ a ∷ reverse xs
turned_push xs a = reverse-append xs (a ∷ [])

pub turned_cut : {A : Type 0} (k : ℕ) (xs : List A) → k ≤ length xs → reverse (take k xs) ≡ drop (length (reverse xs) - k) (reverse xs)
turned_cut k xs low =
    let gone : length (reverse xs) - k ≡ length (reverse (drop k xs)) = omega (arith, length-reverse xs, length-reverse (drop k xs), length-drop k xs) in
    sym (ap (λ n. drop n (reverse xs)) gone
    ∙ ap (drop (length (reverse (drop k xs)))) (ap reverse (sym (take-append-drop k xs)) ∙ reverse-append (take k xs) (drop k xs))
    ∙ drop-append_seam (reverse (drop k xs)) (reverse (take k xs)))

pub length_turned : {A : Type 0} (xs : List A) → length (reverse xs) ≡ length xs
length_turned xs = length-reverse xs

pub ruleset turn_laws = (turned_push, turned_cut, length_turned)
