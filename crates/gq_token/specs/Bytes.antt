-- Bytes: which bytes begin and continue words, numbers and gaps, and which texts are symbols.
use Rattle.std.specs.Prelude.{ℕ, ◌+◌, ◌-◌, ◌*◌, Bool, ◌||◌, ◌&&◌, ◌==◌, nat_le, List, [], ◌∷◌, fold, codes}
use Rattle.std.specs.List.{list_any}
use Rattle.std.specs.Str.{bytes_eq}

-- a blank, a tab, CR or LF
abbrev pub is_blank : ℕ → Bool
is_blank c = c == 32 || c == 9 || c == 13 || c == 10

-- an ASCII digit
abbrev pub is_digit : ℕ → Bool
is_digit c = nat_le 48 c && nat_le c 57

-- an ASCII letter or `_`
abbrev pub is_word_start : ℕ → Bool
is_word_start c = (nat_le 65 c && nat_le c 90) || (nat_le 97 c && nat_le c 122) || c == 95

-- an ASCII letter, `_` or an ASCII digit
abbrev pub is_word_byte : ℕ → Bool
is_word_byte c = is_word_start c || is_digit c

-- the symbols
unfoldable pub symbols : List (List ℕ)
symbols =
    codes "->" ∷ codes "==" ∷ codes "!=" ∷ codes "<>" ∷ codes "<=" ∷ codes ">=" ∷ codes "+="
    ∷ codes "=" ∷ codes "<" ∷ codes ">" ∷ codes "+" ∷ codes "-" ∷ codes "*" ∷ codes "/" ∷ codes "%"
    ∷ codes "(" ∷ codes ")" ∷ codes "{" ∷ codes "}" ∷ codes "[" ∷ codes "]"
    ∷ codes "," ∷ codes ";" ∷ codes ":" ∷ codes "." ∷ codes "|" ∷ codes "'" ∷ codes "$" ∷ []

-- a whole text is a symbol
abbrev pub is_symbol : List ℕ → Bool
is_symbol text = list_any (bytes_eq text) symbols

-- the number that decimal digits write
abbrev pub number_of : List ℕ → ℕ
number_of digits = fold (λ n digit. 10 * n + (digit - 48)) 0 digits
