-- Signs: common combinations of the combinators of Languages.
use Rattle.std.specs.Prelude.{List, [], ◌∷◌, Option, Some, None}
use Rattle.gq_grammar.specs.Lexemes.{Terminal, sign, nothing}
use Rattle.gq_grammar.specs.Languages.{Language, Token, ◌then◌, Many, Maybe, Made}

abbrev pub second : {A B : Type 0} → A × B → B
second p = p.1

abbrev pub inner : {A B C : Type 0} → A × (B × C) → B
inner p = p.1.0

abbrev pub all_of : {A : Type 0} → Option (A × List A) → List A
all_of None = []
all_of (Some p) = p.0 ∷ p.1

abbrev pub always : {A : Type 0} → A → Unit {0} → A
always a u = a

-- one lexeme of a terminal, without a value
unfoldable pub One : Terminal → Language (Unit {0})
One terminal = Token terminal nothing

-- one lexeme of a terminal, with this value
unfoldable pub Stands : {A : Type 0} → A → Terminal → Language A
Stands a terminal = Made (always a) (One terminal)

-- one lexeme of a terminal, and then D
unfoldable pub After : {A : Type 0} → Terminal → Language A → Language A
After terminal D = Made second (One terminal then D)

-- "(" D ")"
unfoldable pub Enclosed : {A : Type 0} → Language A → Language A
Enclosed D = Made inner (One (sign "(") then D then One (sign ")"))

-- [ D { "," D } ]
unfoldable pub Separated : {A : Type 0} → Language A → Language (List A)
Separated D = Made all_of (Maybe (D then Many (After (sign ",") D)))
