-- Items: what was read, of any type, as seen by functions that read a sign after it or append it to a list.
use Rattle.std.specs.Prelude.{◌≡◌, ℕ, ◌≤◌, List, [], ◌∷◌, ◌++◌, length, Option, Some, None, Result, Ok, Err}
use Rattle.gq_base.specs.declared.memory.OutOfMemory.{OutOfMemory}
use Rattle.gq_grammar.specs.Lexemes.{Lexemes}

-- it ends among the lexemes, if something was read
abbrev pub EndsWithin : {A : Type 0} → Lexemes → Result (Option (A × ℕ)) OutOfMemory → Type 0
EndsWithin all (Err fault) = Unit {0}
EndsWithin all (Ok None) = Unit {0}
EndsWithin all (Ok (Some read)) = read.1 ≤ length all

-- what was read is appended to the list, if something was read, and `next` is the place after it
abbrev pub Keeps : {A : Type 0} → List A → List A → Result (Option (A × ℕ)) OutOfMemory → Option ℕ → Type 0
Keeps before after (Err fault) next = ⊥
Keeps before after (Ok None) next = (after ≡ before) × (next ≡ None)
Keeps before after (Ok (Some read)) next = (after ≡ before ++ read.0 ∷ []) × (next ≡ Some read.1)
