-- Literals: values as a script writes them, and common parts of statements.
use Rattle.std.specs.Prelude.{◌≡◌, ℕ, zero, suc, List, [], ◌∷◌, Option, Some, None, Bool, true, false}
use Rattle.gq_tree.specs.declared.schema.Literal.{Literal}
use Rattle.gq_tree.specs.declared.schema.Literal.TheVariants as literal
use Rattle.gq_grammar.specs.Lexemes.{Lexemes, Terminal, Name, Number, Text, Global, Attached, sign, word, spelling, number, said}
use Rattle.gq_grammar.specs.Languages.{Language, Token, ◌then◌, Many, Maybe, ◌∣◌, Made}
use Rattle.gq_grammar.specs.Signs.{One, Stands, After, Enclosed, Separated}
use Rattle.gq_grammar.specs.Series.{Chain, Ended, Kept}

-- an optional list; empty if it is left out
abbrev pub listed : {A : Type 0} → Option (List A) → List A
listed None = []
listed (Some items) = items

-- a first item and others, or an empty list
abbrev pub series : {A : Type 0} → Option (A × List A) → List A
series None = []
series (Some p) = p.0 ∷ p.1

abbrev pub is_there : {A : Type 0} → Option A → Bool
is_there None = false
is_there (Some a) = true

abbrev pub number_of : Option (Unit {0}) × ℕ → Literal
number_of p = literal.Number (is_there p.0) p.1

-- Literal = [ "-" ] Number | Text | TRUE | FALSE
unfoldable pub LiteralOf : Language Literal
LiteralOf =
    Made number_of (Maybe (One (sign "-")) then Token Number number) ∣ Made literal.Text (Token Text said)
    ∣ Stands (literal.Truth true) (word "TRUE") ∣ Stands (literal.Truth false) (word "FALSE")

-- "=" Text
unfoldable pub Setting : Language (List ℕ)
Setting = After (sign "=") (Token Text said)

-- Name { "," Name }
unfoldable pub Names : Language (List (List ℕ))
Names = Chain (sign ",") (Token Name spelling)

-- GRAPH Name
unfoldable pub OfGraph : Language (List ℕ)
OfGraph = After (word "GRAPH") (Token Name spelling)
