-- Parsers: what the code of a reader computes, by the combinators of languages, with alternatives tried in order.
-- They serve internal contracts and those of `Source`; what a reader guarantees is stated with languages.
use Rattle.std.specs.Prelude.{◌≡◌, ℕ, zero, suc, ◌≤◌, List, [], ◌∷◌, ◌++◌, length, drop, Option, Some, None, Bool, true, false}
use Rattle.gq_grammar.specs.Lexemes.{Lexeme, Lexemes, Terminal, sign, is_of, nothing}
use Rattle.gq_grammar.specs.Signs.{second, inner, all_of, always}

-- a value and the remaining lexemes, if there is a value
abbrev pub Parser : Type 0 → Type 0
Parser A = Lexemes → Option (A × Lexemes)

abbrev pub and_then : {A B : Type 0} → Option (A × Lexemes) → (A → Lexemes → Option (B × Lexemes)) → Option (B × Lexemes)
and_then None f = None
and_then (Some p) f = f p.0 p.1

abbrev pub token_at : {A : Type 0} → (Lexeme → A) → Lexeme → Lexemes → Bool → Option (A × Lexemes)
token_at tell t l true = Some (tell t, l)
token_at tell t l false = None

unfoldable pub token : {A : Type 0} → Terminal → (Lexeme → A) → Parser A
token terminal tell [] = None
token terminal tell (t ∷ l) = token_at tell t l (is_of terminal t)

abbrev pub both : {A B : Type 0} → Parser A → Parser B → Parser (A × B)
both p q = λ l. and_then (p l) (λ a r. and_then (q r) (λ b s. Some ((a, b), s)))

abbrev pub made : {A B : Type 0} → (A → B) → Parser A → Parser B
made f p = λ l. and_then (p l) (λ a r. Some (f a, r))

abbrev pub or_else : {X : Type 0} → Option X → Option X → Option X
or_else None o = o
or_else (Some x) o = Some x

infixl 10 ◌or◌
-- the first, or the second if the first finds nothing
abbrev pub ◌or◌ : {A : Type 0} → Parser A → Parser A → Parser A
◌or◌ p q = λ l. or_else (p l) (q l)

abbrev pub maybe_at : {A : Type 0} → Option (A × Lexemes) → Lexemes → Option (Option A × Lexemes)
maybe_at None l = Some (None, l)
maybe_at (Some p) l = Some (Some p.0, p.1)

abbrev pub maybe : {A : Type 0} → Parser A → Parser (Option A)
maybe p = λ l. maybe_at (p l) l

abbrev pub many_after : {A : Type 0} → Option (A × Lexemes) → List A → Lexemes → (List A → Lexemes → Option (List A × Lexemes)) → Option (List A × Lexemes)
many_after None found l go = Some (found, l)
many_after (Some p) found l go = go (found ++ p.0 ∷ []) p.1

-- at most n iterations, after the items found so far
unfoldable pub many_from : {A : Type 0} → Parser A → ℕ → List A → Lexemes → Option (List A × Lexemes)
many_from p zero found l = Some (found, l)
many_from p (suc n) found l = many_after (p l) found l (many_from p n)

unfoldable pub many : {A : Type 0} → Parser A → Parser (List A)
many p = λ l. many_from p (length l) [] l

-- ---- common combinations

unfoldable pub one : Terminal → Parser (Unit {0})
one terminal = token terminal nothing

unfoldable pub stands : {A : Type 0} → A → Terminal → Parser A
stands a terminal = made (always a) (one terminal)

unfoldable pub after : {A : Type 0} → Terminal → Parser A → Parser A
after terminal p = made second (both (one terminal) p)

unfoldable pub enclosed : {A : Type 0} → Parser A → Parser A
enclosed p = made inner (both (one (sign "(")) (both p (one (sign ")"))))

unfoldable pub separated : {A : Type 0} → Parser A → Parser (List A)
separated p = made all_of (maybe (both p (many (after (sign ",") p))))

-- ---- what a function of a reader ensures

-- the parser's result from a place on; a place represents the lexemes from there on
abbrev pub Found : {A : Type 0} → Parser A → Lexemes → ℕ → Option (A × ℕ) → Type 0
Found p all at None = p (drop at all) ≡ None
Found p all at (Some x) = (p (drop at all) ≡ Some (x.0, drop x.1 all)) × (at ≤ x.1) × (x.1 ≤ length all)
