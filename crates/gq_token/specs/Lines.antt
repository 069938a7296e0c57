-- Lines: the line of a place of a script.
use Rattle.std.specs.Prelude.{ℕ, ◌+◌, ◌==◌, List, take}
use Rattle.std.specs.List.{count_by}

-- one more than the number of LF bytes before the place
abbrev pub line_of : List ℕ → ℕ → ℕ
line_of bytes at = 1 + count_by (λ c. c == 10) (take at bytes)
