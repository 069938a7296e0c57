-- Series: combinators for lists with separators, parts with a terminator, and parts that keep their spelling.
-- The same combinators follow for parsers.
use Rattle.std.specs.Prelude.{ℕ, ◌-◌, ◌≡◌, List, [], ◌∷◌, Option, Some, None, ◌++◌, length, take}
use Rattle.gq_grammar.specs.Lexemes.{Lexeme, Lexemes, Terminal}
use Rattle.gq_grammar.specs.Languages.{Language, ◌then◌, Many, Made}
use Rattle.gq_grammar.specs.Signs.{One, After}
use Rattle.gq_grammar.specs.Parsers.{Parser, both, made, many, one, after}

abbrev pub first : {A B : Type 0} → A × B → A
first p = p.0

abbrev pub one_and_all : {A : Type 0} → A × List A → List A
one_and_all p = p.0 ∷ p.1

-- the spellings of lexemes, joined
unfoldable pub joined : Lexemes → List ℕ
joined [] = []
joined (t ∷ x) = t.text ++ joined x

-- D { k D }
unfoldable pub Chain : {A : Type 0} → Terminal → Language A → Language (List A)
Chain k D = Made one_and_all (D then Many (After k D))

-- D, and then one lexeme of a terminal
unfoldable pub Ended : {A : Type 0} → Terminal → Language A → Language A
Ended k D = Made first (D then One k)

-- D, with the spellings of its lexemes, joined
unfoldable pub Kept : {A : Type 0} → Language A → Language (A × List ℕ)
Kept D p x = D p.0 x × (p.1 ≡ joined x)

-- ---- the same for parsers

unfoldable pub chain : {A : Type 0} → Terminal → Parser A → Parser (List A)
chain k p = made one_and_all (both p (many (after k p)))

unfoldable pub ended : {A : Type 0} → Terminal → Parser A → Parser A
ended k p = made first (both p (one k))

abbrev pub kept_at : {A : Type 0} → Option (A × Lexemes) → Lexemes → Option ((A × List ℕ) × Lexemes)
kept_at None l = None
kept_at (Some p) l = Some ((p.0, joined (take (length l - length p.1) l)), p.1)

unfoldable pub kept : {A : Type 0} → Parser A → Parser (A × List ℕ)
kept p = λ l. kept_at (p l) l
