-- Digits: texts of 1 to 18 digits, which have a faster parser. No public clause cites this.
use Rattle.std.specs.Prelude.{◌≡◌, ℕ, ◌<◌, ◌^◌, Bool, ◌&&◌, ◌==◌, nat_lt, List, length, slice_index, Some}
use Rattle.std.specs.Option.{option_map}
use Rattle.std.specs.Fmt.{decimal, signed_decimal}
use Rattle.std.specs.Str.Parse.{IsNumeral, digits_value}
use Rattle.gq_time.specs.Reading.{trimmed}
use Rattle.gq_load_csv.specs.Texts.{int_in, uint_in}

-- a text of digits writes a number below 10^18
pub record IsShort (text : List ℕ) (n : ℕ) : Type 0 where
  pub numeral : IsNumeral 10 text
  pub value : n ≡ digits_value 10 text
  pub fits : n < 10 ^ 18

-- a zero comes before other bytes
abbrev pub has_leading_zero : List ℕ → Bool
has_leading_zero text = nat_lt 1 (length text) && slice_index text 0 == 48

-- a text is the shortest text of its number, without blanks around it
pub record IsOwn (text : List ℕ) : Type 0 where
  pub int : option_map signed_decimal (int_in text) ≡ Some text
  pub uint : option_map decimal (uint_in text) ≡ Some text
  pub whole : trimmed text ≡ text
