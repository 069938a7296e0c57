-- Histories: the list of all inserts that were added to a store, which only grows; what was seen of it is a beginning of it. No code keeps
-- the list: a word counts it, and tokens without bytes represent its beginnings.
use Rattle.std.specs.Prelude.{ℕ, suc, ◌≡◌, ◌==◌, true, List, [], ◌∷◌, ◌++◌, length, MatchBool}
use mathlib.Core.List.{IsPrefix}
use Rattle.logbook.specs.Pages.{Cell, Step, View, Book, Named}
use Rattle.gq_load_check.specs.declared.insert.Insert.{Insert}

-- a list goes one insert beyond another, which begins it
pub record IsOneLonger (before after : List Insert) : Type 0 where
  pub begins : IsPrefix before after
  pub long : length after ≡ suc (length before)

-- a list ends with an insert
pub record EndsWith (rows : List Insert) (row : Insert) : Type 0 where
  pub before : List Insert
  pub whole : rows ≡ before ++ row ∷ []

-- the first word is the length of the history. The second isn't used
abbrev pub IsKept : List Cell → List Insert → Type 0
IsKept cells log = cells ≡ (length log, true) ∷ (0, true) ∷ []

abbrev pub head_of : Book → Named
head_of b = record { tracked = true; key = 0; book = b }

-- the insert was added to all that had been seen; or the history was longer
abbrev pub Adds : Step Insert → View Insert ℕ → ℕ → View Insert ℕ → Type 0
Adds s v found w = MatchBool (found == s.old) (w.0 ≡ v.0 ++ s.ask ∷ []) (length w.0 ≡ found)
