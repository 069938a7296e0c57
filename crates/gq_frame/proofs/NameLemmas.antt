-- NameLemmas: the first alias of a place.
use Rattle.std.proofs.Common.{◌≡◌, ℕ, ◌+◌, ◌<◌, ◌≤◌, ◌==◌, true, false, cond, List, ◌∷◌, drop, map, length, get_or, Option, Some, None, sym, ap, ◌∙◌}
use Rattle.std.proofs.lemmas.List.{drop_more, drop_all}
use Rattle.gq_eval_operand.specs.Words.{under}
use Rattle.gq_frame.specs.declared.frame.Alias.{Alias}
use Rattle.gq_frame.specs.Names.{Placed, alias_of, placed_of}

at_alias : (ls : List Alias) (i : ℕ) (a : Alias) → i < length ls → a ≡ get_or ls i a → drop i ls ≡ a ∷ drop (i + 1) ls
at_alias ls i a n is = drop_more ls i a n ∙ ap (λ x. x ∷ drop (i + 1) ls) (sym is)

abbrev Left : ℕ → List Alias → ℕ → Option Placed
Left p ls i = under ◌==◌ p (map alias_of (drop i ls))

alias_chosen : (p : ℕ) (ls : List Alias) (i : ℕ) (a : Alias) → i < length ls → a ≡ get_or ls i a → Left p ls i ≡ cond (a.place == p) (Some (placed_of a.is)) (Left p ls (i + 1))
alias_chosen p ls i a n is = ap (λ xs. under ◌==◌ p (map alias_of xs)) (at_alias ls i a n is)

pub alias_here : (p : ℕ) (ls : List Alias) (i : ℕ) (a : Alias) → under ◌==◌ p (map alias_of ls) ≡ under ◌==◌ p (map alias_of (drop i ls)) → i < length ls → a ≡ get_or ls i a → (a.place == p) ≡ true → Some (placed_of a.is) ≡ under ◌==◌ p (map alias_of ls)
alias_here p ls i a inv n is e = sym (inv ∙ alias_chosen p ls i a n is ∙ ap (λ b. cond b (Some (placed_of a.is)) (Left p ls (i + 1))) e)

pub alias_next : (p : ℕ) (ls : List Alias) (i : ℕ) (a : Alias) → under ◌==◌ p (map alias_of ls) ≡ under ◌==◌ p (map alias_of (drop i ls)) → i < length ls → a ≡ get_or ls i a → (a.place == p) ≡ false → under ◌==◌ p (map alias_of ls) ≡ under ◌==◌ p (map alias_of (drop (i + 1) ls))
alias_next p ls i a inv n is e = inv ∙ alias_chosen p ls i a n is ∙ ap (λ b. cond b (Some (placed_of a.is)) (Left p ls (i + 1))) e

pub alias_none : (p : ℕ) (ls : List Alias) (i : ℕ) → under ◌==◌ p (map alias_of ls) ≡ under ◌==◌ p (map alias_of (drop i ls)) → length ls ≤ i → None ≡ under ◌==◌ p (map alias_of ls)
alias_none p ls i inv l = sym (inv ∙ ap (λ xs. under ◌==◌ p (map alias_of xs)) (drop_all i ls l))

pub ruleset alias_laws = (alias_here, alias_next, alias_none)
