-- Texts: the number or truth value of a text, after blanks and tabs are trimmed.
-- The code makes one pass over the bytes; here a number is defined by its digits and its range.
use Rattle.std.specs.Prelude.{ℕ, ◌^◌, ℤ, Bool, true, false, ◌&&◌, ◌||◌, nat_lt, if◌then◌else◌, List, length, codes, Option, Some, None, bytes_eq}
use Rattle.std.specs.Str.{all_ascii_digits, str_eq_ignore_ascii_case}
use Rattle.std.specs.Str.Parse.{digits_value, without_leading_plus, without_leading_sign, signed_digits_value}
use Rattle.gq_value.specs.declared.kind.Number.TheVariants as number
use Rattle.gq_value.specs.Arithmetic.{is_within}

-- one or more digits
abbrev pub is_numeral : List ℕ → Bool
is_numeral text = nat_lt 0 (length text) && all_ascii_digits text

-- an INT: an optional `+` or `-`, and digits whose number is in the range of INT
unfoldable pub int_in : List ℕ → Option ℤ
int_in text =
    if is_numeral (without_leading_sign text) && is_within number.Int (signed_digits_value 10 text)
    then Some (signed_digits_value 10 text) else None

-- a UINT: an optional `+`, and digits whose number is in the range of UINT
unfoldable pub uint_in : List ℕ → Option ℕ
uint_in text =
    if is_numeral (without_leading_plus text) && nat_lt (digits_value 10 (without_leading_plus text)) (2 ^ 64)
    then Some (digits_value 10 (without_leading_plus text)) else None

-- a BOOL: `true` or `false` in any case, `1` or `0`
unfoldable pub truth_in : List ℕ → Option Bool
truth_in text =
    if str_eq_ignore_ascii_case text (codes "true") || bytes_eq text (codes "1") then Some true
    else (if str_eq_ignore_ascii_case text (codes "false") || bytes_eq text (codes "0") then Some false else None)
