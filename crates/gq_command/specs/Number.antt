-- Number: the numbers that options take. A number is one to ten ASCII digits.
--
-- Here a digit is defined by its class and a number by its value. The code parses a text with std.
use Rattle.std.specs.Prelude.{ℕ, Bool, List, Option, Some, None, length, ◌&&◌, nat_le, if◌then◌else◌}
use Rattle.std.specs.Str.{all_ascii_digits}
use Rattle.std.specs.Str.Parse.{digits_value}

-- whether the text is a number
abbrev pub is_number : List ℕ → Bool
is_number text = all_ascii_digits text && (nat_le 1 (length text) && nat_le (length text) 10)

-- whether the text is a number from 1 to `most`
abbrev pub is_number_to : ℕ → List ℕ → Bool
is_number_to most text = is_number text && (nat_le 1 (digits_value 10 text) && nat_le (digits_value 10 text) most)

-- the number from 1 to `most` that the text is
unfoldable pub number_to : ℕ → List ℕ → Option ℕ
number_to most text = if is_number_to most text then Some (digits_value 10 text) else None

-- the same for the value of an option, which has a default if it isn't given
abbrev pub number_or : (default most : ℕ) → Option (List ℕ) → Option ℕ
number_or default most None = Some default
number_or default most (Some text) = number_to most text
