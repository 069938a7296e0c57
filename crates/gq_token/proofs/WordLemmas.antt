-- WordLemmas: a word is text.
use Rattle.std.proofs.Common.{◌≡◌, ℕ, zero, suc, ◌<◌, Bool, true, false, List, [], ◌∷◌, Option, Some, None, drop, map, refl, ap, sym, ◌∙◌, arith}
use Rattle.std.specs.Prelude.{if◌then◌else◌, option_map, nat_eq, codes, ◌&&◌}
use Rattle.std.specs.List.{list_all, starts_with}
use Rattle.std.specs.Str.{IsAscii, str_eq_ignore_ascii_case}
use Rattle.std.proofs.lemmas.Bool.{and_parts}
use Rattle.std.proofs.lemmas.Bool.Decides.{nat_tests, same_from_decides}
use Rattle.std.proofs.lemmas.Slice.Eq.{bytes_eq-Decides}
use Rattle.std.specs.Bool.{Decides}
use Rattle.std.specs.Char.{to_ascii_lowercase}
use Rattle.gq_token.specs.declared.token.TokenKind.{TokenKind}
use Rattle.gq_token.specs.declared.token.TokenKind.TheVariants.{Word, Global, Attached, Number, Text, Symbol}
use Rattle.gq_token.specs.Kinds.{is_word_shape}
use Rattle.gq_token.specs.Bytes.{is_word_start, is_word_byte, is_digit, is_symbol, number_of}
use Rattle.gq_token.specs.Spelling.{Gap, TokenOf, spelled, is_gap, is_word, are_all, text_spelled}

-- a byte of a word is ASCII
word_byte_ascii : (c : ℕ) → is_word_byte c ≡ true → c < 128
word_byte_ascii c word = grind (arith, nat_tests)

-- so is its first byte
word_start_ascii : (c : ℕ) → is_word_start c ≡ true → c < 128
word_start_ascii c word = grind (arith, nat_tests)

-- so are several
word_bytes_ascii : (cs : List ℕ) → list_all is_word_byte cs ≡ true → IsAscii cs
word_bytes_ascii [] all i = omega arith
word_bytes_ascii (c ∷ cs) all zero = word_byte_ascii c (and_parts (is_word_byte c) (list_all is_word_byte cs) all).0
word_bytes_ascii (c ∷ cs) all (suc i) = word_bytes_ascii cs (and_parts (is_word_byte c) (list_all is_word_byte cs) all).1 i

-- only the test of words yields a word
found_word : (gap word global attached digits mark : Bool) (n : ℕ) (text : Option (List ℕ))
    → (if gap then Some Gap
    else (if word then Some (TokenOf Word)
    else (if global then Some (TokenOf Global)
    else (if attached then Some (TokenOf Attached)
    else (if digits then Some (TokenOf (Number n))
    else (if mark then Some (TokenOf Symbol)
    else option_map (λ bytes. TokenOf (Text bytes)) text)))))) ≡ Some (TokenOf Word) → word ≡ true
found_word true word global attached digits mark n text is = cc
found_word false true global attached digits mark n text is = refl
found_word false false true attached digits mark n text is = cc
found_word false false false true digits mark n text is = cc
found_word false false false false true mark n text is = cc
found_word false false false false false true n text is = cc
found_word false false false false false false n None is = cc
found_word false false false false false false n (Some said) is = cc

-- a text that spells a word passes the test of words
spelled_is_word : (text : List ℕ) → spelled text ≡ Some (TokenOf Word) → is_word text ≡ true
spelled_is_word text is =
    found_word (is_gap text) (is_word text) (starts_with nat_eq text (codes "@@") && is_word (drop 2 text)) (starts_with nat_eq text (codes "@") && is_word (drop 1 text))
    (are_all is_digit text) (is_symbol text) (number_of text) (text_spelled text) is

-- only the test of words after `@@` yields a global name
found_global : (gap word global attached digits mark : Bool) (n : ℕ) (text : Option (List ℕ))
    → (if gap then Some Gap
    else (if word then Some (TokenOf Word)
    else (if global then Some (TokenOf Global)
    else (if attached then Some (TokenOf Attached)
    else (if digits then Some (TokenOf (Number n))
    else (if mark then Some (TokenOf Symbol)
    else option_map (λ bytes. TokenOf (Text bytes)) text)))))) ≡ Some (TokenOf Global) → global ≡ true
found_global true word global attached digits mark n text is = cc
found_global false true global attached digits mark n text is = cc
found_global false false true attached digits mark n text is = refl
found_global false false false true digits mark n text is = cc
found_global false false false false true mark n text is = cc
found_global false false false false false true n text is = cc
found_global false false false false false false n None is = cc
found_global false false false false false false n (Some said) is = cc

-- and only that after `@` an attached name
found_attached : (gap word global attached digits mark : Bool) (n : ℕ) (text : Option (List ℕ))
    → (if gap then Some Gap
    else (if word then Some (TokenOf Word)
    else (if global then Some (TokenOf Global)
    else (if attached then Some (TokenOf Attached)
    else (if digits then Some (TokenOf (Number n))
    else (if mark then Some (TokenOf Symbol)
    else option_map (λ bytes. TokenOf (Text bytes)) text)))))) ≡ Some (TokenOf Attached) → attached ≡ true
found_attached true word global attached digits mark n text is = cc
found_attached false true global attached digits mark n text is = cc
found_attached false false true attached digits mark n text is = cc
found_attached false false false true digits mark n text is = refl
found_attached false false false false true mark n text is = cc
found_attached false false false false false true n text is = cc
found_attached false false false false false false n None is = cc
found_attached false false false false false false n (Some said) is = cc

-- a word is ASCII
word_is_ascii : (bytes : List ℕ) → is_word bytes ≡ true → IsAscii bytes
word_is_ascii [] word i = cc
word_is_ascii (c ∷ cs) word zero = word_start_ascii c (and_parts (is_word_start c) (list_all is_word_byte cs) word).0
word_is_ascii (c ∷ cs) word (suc i) = word_bytes_ascii cs (and_parts (is_word_start c) (list_all is_word_byte cs) word).1 i

-- so is a `@` or `@@` and a word
at_ascii : (text : List ℕ) → starts_with nat_eq text (codes "@") ≡ true → is_word (drop 1 text) ≡ true → IsAscii text
at_ascii [] sign word i = cc
at_ascii (c ∷ cs) sign word zero = grind (arith, nat_tests, sign)
at_ascii (c ∷ cs) sign word (suc i) = word_is_ascii cs word i

two_ascii : (text : List ℕ) → starts_with nat_eq text (codes "@@") ≡ true → is_word (drop 2 text) ≡ true → IsAscii text
two_ascii [] sign word i = cc
two_ascii (c ∷ []) sign word i = cc
two_ascii (c ∷ d ∷ cs) sign word zero = grind (arith, nat_tests, sign)
two_ascii (c ∷ d ∷ cs) sign word (suc zero) = grind (arith, nat_tests, sign)
two_ascii (c ∷ d ∷ cs) sign word (suc (suc i)) = word_is_ascii cs word i

pub global_ascii : (text : List ℕ) → spelled text ≡ Some (TokenOf Global) → IsAscii text
global_ascii text is =
    let parts =
    and_parts (starts_with nat_eq text (codes "@@")) (is_word (drop 2 text))
    (found_global (is_gap text) (is_word text) (starts_with nat_eq text (codes "@@") && is_word (drop 2 text)) (starts_with nat_eq text (codes "@") && is_word (drop 1 text))
    (are_all is_digit text) (is_symbol text) (number_of text) (text_spelled text) is) in
    two_ascii text parts.0 parts.1

pub attached_ascii : (text : List ℕ) → spelled text ≡ Some (TokenOf Attached) → IsAscii text
attached_ascii text is =
    let parts =
    and_parts (starts_with nat_eq text (codes "@")) (is_word (drop 1 text))
    (found_attached (is_gap text) (is_word text) (starts_with nat_eq text (codes "@@") && is_word (drop 2 text)) (starts_with nat_eq text (codes "@") && is_word (drop 1 text))
    (are_all is_digit text) (is_symbol text) (number_of text) (text_spelled text) is) in
    at_ascii text parts.0 parts.1

pub word_ascii : (text : List ℕ) → spelled text ≡ Some (TokenOf Word) → IsAscii text
word_ascii text is = word_is_ascii text (spelled_is_word text is)

-- a word whose spelling matches is the keyword
pub keyword_is : (shape : TokenKind) (text bytes word : List ℕ) (same : Bool) → shape ≡ Word → text ≡ bytes
    → Decides same (map to_ascii_lowercase text ≡ map to_ascii_lowercase word)
    → same ≡ (is_word_shape shape && str_eq_ignore_ascii_case bytes word)
keyword_is shape text bytes word same is copy tested =
    same_from_decides same (str_eq_ignore_ascii_case text word) tested (bytes_eq-Decides (map to_ascii_lowercase text) (map to_ascii_lowercase word))
    ∙ ap (λ t. str_eq_ignore_ascii_case t word) copy ∙ sym (ap (λ s. is_word_shape s && str_eq_ignore_ascii_case bytes word) is)
