-- Class: how the first two bytes of an item determine its kind, as the code uses it.
-- If there is no second byte, it is 0.
use Rattle.std.specs.Prelude.{◌≡◌, ℕ, ◌<◌, ◌≤◌, Bool, true, false, not, ◌==◌, ◌&&◌, ◌||◌, List, length, take, get_or, if◌then◌else◌}
use Rattle.std.specs.List.{list_all}
use Rattle.gq_token.specs.declared.class.Class.{Class}
use Rattle.gq_token.specs.declared.class.Class.TheVariants as class
use Rattle.gq_token.specs.declared.class.ByteRun.{ByteRun}
use Rattle.gq_token.specs.declared.class.ByteRun.TheVariants as run
use Rattle.gq_token.specs.Bytes.{is_blank, is_digit, is_word_start, is_word_byte}

-- what a `/` followed by this byte begins
abbrev pub slash_class : ℕ → Class
slash_class d = if d == 47 then class.LineComment else (if d == 42 then class.BlockComment else class.Other)

-- what these bytes begin
abbrev pub class_of : ℕ → ℕ → Class
class_of c d =
    if is_blank c then class.Blank
    else (if c == 35 then class.LineComment
    else (if c == 47 then slash_class d
    else (if is_word_start c then class.Word
    else (if c == 64 then class.Sign
    else (if is_digit c then class.Number
    else (if c == 34 then class.Text
    else class.Other))))))

-- two bytes are a symbol
abbrev pub is_pair : ℕ → ℕ → Bool
is_pair c d =
    (c == 45 && d == 62) || (c == 61 && d == 61) || (c == 33 && d == 61) || (c == 60 && d == 62)
    || (c == 60 && d == 61) || (c == 62 && d == 61) || (c == 43 && d == 61)

-- one byte is a symbol
abbrev pub is_single : ℕ → Bool
is_single c =
    c == 61 || c == 60 || c == 62 || c == 43 || c == 45 || c == 42 || c == 47 || c == 37
    || c == 40 || c == 41 || c == 123 || c == 125 || c == 91 || c == 93
    || c == 44 || c == 59 || c == 58 || c == 46 || c == 124 || c == 39 || c == 36

-- the length of the longest symbol of two bytes: 2, 1, or 0 if there is none
abbrev pub symbol_size : ℕ → ℕ → ℕ
symbol_size c d = if is_pair c d then 2 else (if is_single c then 1 else 0)

-- whether a byte belongs to a run of bytes of one kind
abbrev pub goes_on : ByteRun → ℕ → Bool
goes_on run.Blank c = is_blank c
goes_on run.Line c = not (c == 10)
goes_on run.Word c = is_word_byte c
goes_on run.Digit c = is_digit c

-- the first `size` bytes belong to a run, and the byte after them, if there is one, doesn't
pub record IsRun (goes : ℕ → Bool) (bytes : List ℕ) (size : ℕ) : Type 0 where
  pub within : size ≤ length bytes
  pub inside : list_all goes (take size bytes) ≡ true
  pub behind : size < length bytes → goes (get_or bytes size 0) ≡ false
