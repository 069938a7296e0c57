-- Listing: the bytes under a name in a list of files.
use Rattle.std.specs.Prelude.{ℕ, List, [], ◌∷◌, Option, Some, None, if◌then◌else◌}
use Rattle.std.specs.Str.{bytes_eq}

-- names with their bytes, in order
abbrev pub Listing : Type 0
Listing = List (List ℕ × List ℕ)

-- the bytes under a name: those of the first pair that has it
abbrev pub named : List ℕ → Listing → Option (List ℕ)
named name [] = None
named name (pair ∷ pairs) = if bytes_eq pair.0 name then Some pair.1 else named name pairs
