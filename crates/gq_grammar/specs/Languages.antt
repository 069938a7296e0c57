-- Languages: which lists of lexemes spell a value, and the combinators of a grammar.
-- They are relations: nothing here says how a list is read, or which of several alternatives is tried first.
use Rattle.std.specs.Prelude.{◌≡◌, true, List, [], ◌∷◌, ◌++◌, Option, Some, None, ◌⊎◌}
use Rattle.gq_grammar.specs.Lexemes.{Lexeme, Lexemes, Terminal, is_of}

-- which lists of lexemes spell a value
abbrev pub Language : Type 0 → Type 1
Language A = A → Lexemes → Type 0

-- one lexeme of a terminal, with its value
abbrev pub Token : {A : Type 0} → Terminal → (Lexeme → A) → Language A
Token terminal tell a x = (t : Lexeme) × (x ≡ t ∷ []) × (is_of terminal t ≡ true) × (a ≡ tell t)

infixl 10 ◌∣◌
infixr 20 ◌then◌
-- the first, and then the second
abbrev pub ◌then◌ : {A B : Type 0} → Language A → Language B → Language (A × B)
◌then◌ D E p x = (u v : Lexemes) × (x ≡ u ++ v) × D p.0 u × E p.1 v

-- { D }: any number, possibly none
abbrev pub Many : {A : Type 0} → Language A → Language (List A)
Many D [] x = x ≡ []
Many D (a ∷ items) x = (u v : Lexemes) × (x ≡ u ++ v) × D a u × Many D items v

-- [ D ]: optional
abbrev pub Maybe : {A : Type 0} → Language A → Language (Option A)
Maybe D None x = x ≡ []
Maybe D (Some a) x = D a x

-- one or the other
abbrev pub ◌∣◌ : {A : Type 0} → Language A → Language A → Language A
◌∣◌ D E a x = D a x ⊎ E a x

-- a value computed from what is spelled
abbrev pub Made : {A B : Type 0} → (A → B) → Language A → Language B
Made f D b x = (a : _) × D a x × (b ≡ f a)
