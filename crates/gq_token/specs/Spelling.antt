-- Spelling: what a whole text spells, among the gaps and tokens into which a script is cut.
use Rattle.std.specs.Prelude.{ℕ, ◌^◌, ◌<◌, Bool, false, not, ◌&&◌, ◌||◌, ◌==◌, List, [], ◌∷◌, Option, Some, None, option_map, drop, codes, if◌then◌else◌, nat_eq}
use Rattle.std.specs.List.{list_all, starts_with}
use Rattle.gq_token.specs.declared.token.TokenKind.{TokenKind}
use Rattle.gq_token.specs.declared.token.TokenKind.TheVariants.{Word, Global, Attached, Number, Text, Symbol}
use Rattle.gq_token.specs.Bytes.{is_blank, is_digit, is_word_start, is_word_byte, is_symbol, number_of}
use Rattle.gq_token.specs.Texts.{said}

-- a gap, or a token of a shape
pub data Item : Type 0 where
  Gap : Item
  TokenOf : TokenKind → Item

-- the text isn't empty, and all of its bytes pass
abbrev pub are_all : (ℕ → Bool) → List ℕ → Bool
are_all test [] = false
are_all test (c ∷ cs) = test c && list_all test cs

-- `#` or `//`, and no LF
abbrev pub is_line_comment : List ℕ → Bool
is_line_comment text = (starts_with nat_eq text (codes "#") || starts_with nat_eq text (codes "//")) && list_all (λ c. not (c == 10)) text

-- the bytes end with their first `*/`
abbrev pub ends_at_close : List ℕ → Bool
ends_at_close [] = false
ends_at_close (c ∷ []) = false
ends_at_close (c ∷ d ∷ cs) = if c == 42 && d == 47 then is_empty cs else ends_at_close (d ∷ cs)
  where
    is_empty : List ℕ → Bool
    is_empty cs = list_all (λ c. false) cs

-- `/*`, and then bytes that end with their first `*/`
abbrev pub is_block_comment : List ℕ → Bool
is_block_comment text = starts_with nat_eq text (codes "/*") && ends_at_close (drop 2 text)

-- blanks, or one comment
abbrev pub is_gap : List ℕ → Bool
is_gap text = are_all is_blank text || is_line_comment text || is_block_comment text

-- an ASCII letter or `_`, followed by ASCII letters, digits and `_`
abbrev pub is_word : List ℕ → Bool
is_word [] = false
is_word (c ∷ cs) = is_word_start c && list_all is_word_byte cs

-- `"`, and the value up to the closing `"`
abbrev pub text_spelled : List ℕ → Option (List ℕ)
text_spelled [] = None
text_spelled (c ∷ cs) = if c == 34 then said cs else None

-- what a whole text spells, if it spells an item
abbrev pub spelled : List ℕ → Option Item
spelled text =
    if is_gap text then Some Gap
    else (if is_word text then Some (TokenOf Word)
    else (if starts_with nat_eq text (codes "@@") && is_word (drop 2 text) then Some (TokenOf Global)
    else (if starts_with nat_eq text (codes "@") && is_word (drop 1 text) then Some (TokenOf Attached)
    else (if are_all is_digit text then Some (TokenOf (Number (number_of text)))
    else (if is_symbol text then Some (TokenOf Symbol)
    else option_map (λ bytes. TokenOf (Text bytes)) (text_spelled text))))))

-- the number of an item has at most 64 bits
abbrev pub Fits : Item → Type 0
Fits Gap = Unit {0}
Fits (TokenOf (Number n)) = n < 2 ^ 64
Fits (TokenOf _) = Unit {0}
