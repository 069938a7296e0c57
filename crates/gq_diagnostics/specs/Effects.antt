-- Effects: the effect of a statement on a state: another state and its lines, or its refusal.
use Rattle.std.specs.Prelude.{ℕ, List, [], ◌∷◌, Option, Some, None, Vec}
use Rattle.std.specs.declared.alloc.Global.{Global}

-- another state, and the lines that the statement prints, at most one; or the message of its refusal
pub data Effect (S : Type 0) : Type 0 where
  Becomes : S → List (List ℕ) → Effect S
  Refused : List ℕ → Effect S

-- the line, if there is one
abbrev pub lines_of : Option (Vec ℕ Global) → List (List ℕ)
lines_of None = []
lines_of (Some line) = line.items ∷ []
