-- Shift: the word that represents a signed number.
-- Here both are integers without bounds. The code adds in 128 bits.
use Rattle.std.specs.Prelude.{◌≡◌, ℕ, ℤ, pos, ◌+ℤ◌, ◌^◌}

-- the word is 2^63 more than the number
abbrev pub IsShifted : ℤ → ℕ → Type 0
IsShifted x word = pos word ≡ x +ℤ pos (2 ^ 63)
