-- Exact: what a reader finds, defined by the grammar alone.
use Rattle.std.specs.Prelude.{ℕ, Option, Some, None}
use Rattle.gq_grammar.specs.Lexemes.{Lexemes}
use Rattle.gq_grammar.specs.Languages.{Language}
use Rattle.gq_grammar.specs.Parsers.{Parser, Found}
use Rattle.gq_grammar.specs.Reading.{IsLongest, HasNone}

-- the value of the longest prefix that derives, with its end, or None if no prefix derives
abbrev pub IsWhatDerives : {A : Type 0} → Language A → Lexemes → ℕ → Option (A × ℕ) → Type 0
IsWhatDerives D all at None = HasNone D all at
IsWhatDerives D all at (Some read) = IsLongest D all at read.0 read.1

-- whatever the parser finds is what derives
abbrev pub IsExact : {A : Type 0} → Language A → Parser A → Type 0
IsExact {A} D p = (all : Lexemes) (at : ℕ) (found : Option (A × ℕ)) → Found p all at found → IsWhatDerives D all at found
