-- Which texts are numbers and truth values, in terms of what std parses.
use Rattle.std.proofs.Common.{◌≡◌, ℕ, ◌<◌, ◌^◌, zero, suc, cond, ℤ, pos, negsuc, List, [], ◌∷◌, Some, None, Ok, Err, length, drop, Bool, true, false, eqb, inl, inr, refl, ap, sym, ◌∙◌, arith, FitsSigned, w64}
use Rattle.std.specs.Prelude.{if◌then◌else◌, nat_lt, IsUtf8, IsAscii, ◌&&◌}
use Rattle.std.specs.Str.{all_ascii_digits, is_utf8}
use Rattle.std.specs.Str.Parse.{IsNumeral, digits_value, ParsesUnsigned, ParsesSigned, without_leading_plus, without_leading_sign, signed_digits_value}
use Rattle.std.proofs.lemmas.Str.Parse.{IsNumeralModel, numerals_by_value, tells_all_ascii_digits}
use Rattle.std.proofs.lemmas.Str.{IsUtf8-from_is_utf8, is_utf8-from_IsUtf8, IsUtf8-from_ascii}
use Rattle.std.proofs.lemmas.Fmt.{IsAscii-from_digits}
use Rattle.std.proofs.lemmas.Bool.{lt-ltb, ltb-true, and_from, and_right, and_parts, cases_Bool}
use Rattle.std.proofs.lemmas.Bool.Decides.{nat_tests}
use Rattle.gq_value.specs.declared.kind.Number.TheVariants as number
use Rattle.gq_value.specs.Arithmetic.{is_within}
use Rattle.gq_graph.specs.declared.types.IdKind.TheVariants as id
use Rattle.gq_load_csv.specs.Fields.{id_in}
use Rattle.gq_load_csv.specs.Texts.{is_numeral, int_in, uint_in}

-- ---- texts

pub no_utf8 : (bytes : List ℕ) → (IsUtf8 bytes → ⊥) → is_utf8 bytes ≡ false
no_utf8 bytes never = elim (cases_Bool (is_utf8 bytes)) [ inl is ↦ absurd (never (IsUtf8-from_is_utf8 bytes is)) | inr isnt ↦ isnt ]

-- ---- digits

own : IsNumeralModel (λ ds. all_ascii_digits ds ≡ true) (digits_value 10)
own = numerals_by_value _ tells_all_ascii_digits

to_numeral : (ds : List ℕ) → IsNumeral 10 ds → is_numeral ds ≡ true
to_numeral ds is = and_from (nat_lt 0 (length ds)) (all_ascii_digits ds) (lt-ltb 0 (length ds) is.0) (own.from ds is.1)

from_numeral : (ds : List ℕ) → is_numeral ds ≡ true → IsNumeral 10 ds
from_numeral ds is = let both = and_parts (nat_lt 0 (length ds)) (all_ascii_digits ds) is in (ltb-true 0 (length ds) both.0, own.to ds both.1)

-- ---- INT

within : (z : ℤ) → FitsSigned w64 z → is_within number.Int z ≡ true
within (pos n) h = let k : n < 2 ^ 63 = h.sfits in grind (arith, nat_tests)
within (negsuc n) h = let k : n < 2 ^ 63 = h.sfits in grind (arith, nat_tests)

fits : (z : ℤ) → is_within number.Int z ≡ true → FitsSigned w64 z
fits (pos n) h = let k : n < 2 ^ 63 = grind (arith, nat_tests) in record { sfits = k }
fits (negsuc n) h = let k : n < 2 ^ 63 = grind (arith, nat_tests) in record { sfits = k }

int_by : (text : List ℕ) (is : Bool) → (is_numeral (without_leading_sign text) && is_within number.Int (signed_digits_value 10 text)) ≡ is
    → int_in text ≡ (if is then Some (signed_digits_value 10 text) else None)
unfolding int_in
int_by text is told = ap (λ b. if b then Some (signed_digits_value 10 text) else None) told

pub int_read : (E : Type 0) (text : List ℕ) (n : ℤ) → ParsesSigned {E = E} w64 10 text (Ok n) → int_in text ≡ Some n
int_read E text n read =
    int_by text true (and_from _ _ (to_numeral (without_leading_sign text) read.0.0) (within (signed_digits_value 10 text) read.0.1)) ∙ ap (λ z. Some z) (sym read.1)

pub int_unread : (E : Type 0) (text : List ℕ) (e : E) → ParsesSigned {E = E} w64 10 text (Err e) → int_in text ≡ None
int_unread E text e never = elim (cases_Bool (is_numeral (without_leading_sign text) && is_within number.Int (signed_digits_value 10 text))) [
  | inl is ↦ let both = and_parts _ _ is in absurd (never (from_numeral (without_leading_sign text) both.0, fits (signed_digits_value 10 text) both.1))
  | inr isnt ↦ int_by text false isnt
]

-- ---- UINT

uint_by : (text : List ℕ) (is : Bool) → (is_numeral (without_leading_plus text) && nat_lt (digits_value 10 (without_leading_plus text)) (2 ^ 64)) ≡ is
    → uint_in text ≡ (if is then Some (digits_value 10 (without_leading_plus text)) else None)
unfolding uint_in
uint_by text is told = ap (λ b. if b then Some (digits_value 10 (without_leading_plus text)) else None) told

pub uint_read : (E : Type 0) (text : List ℕ) (n : ℕ) → ParsesUnsigned {E = E} 64 10 text (Ok n) → uint_in text ≡ Some n
uint_read E text n read =
    uint_by text true (and_from _ _ (to_numeral (without_leading_plus text) read.0.0) (lt-ltb (digits_value 10 (without_leading_plus text)) (2 ^ 64) read.0.1)) ∙ ap (λ z. Some z) (sym read.1)

pub uint_unread : (E : Type 0) (text : List ℕ) (e : E) → ParsesUnsigned {E = E} 64 10 text (Err e) → uint_in text ≡ None
uint_unread E text e never = elim (cases_Bool (is_numeral (without_leading_plus text) && nat_lt (digits_value 10 (without_leading_plus text)) (2 ^ 64))) [
  | inl is ↦ let both = and_parts _ _ is in absurd (never (from_numeral (without_leading_plus text) both.0, ltb-true (digits_value 10 (without_leading_plus text)) (2 ^ 64) both.1))
  | inr isnt ↦ uint_by text false isnt
]

-- ---- a number is ASCII

-- a text is ASCII if its first byte and the others are
ascii_more : (b : ℕ) (bs : List ℕ) → b < 128 → IsAscii bs → IsAscii (b ∷ bs)
ascii_more b bs low rest zero = low
ascii_more b bs low rest (suc i) = rest i

after_sign : (b : ℕ) (bs : List ℕ) (sign : Bool) → (sign ≡ true → b < 128) → IsAscii (if sign then bs else b ∷ bs) → IsAscii (b ∷ bs)
after_sign b bs true low rest = ascii_more b bs (low refl) rest
after_sign b bs false low rest = rest

plus_ascii : (text : List ℕ) → IsAscii (without_leading_plus text) → IsAscii text
plus_ascii [] is = is
plus_ascii (b ∷ bs) is = go (eqb b 43) refl is
  where
    go : (sign : Bool) → eqb b 43 ≡ sign → IsAscii (drop (cond sign 1 0) (b ∷ bs)) → IsAscii (b ∷ bs)
    go true e rest = ascii_more b bs (grind (arith, nat_tests)) rest
    go false e rest = rest

sign_ascii : (text : List ℕ) → IsAscii (without_leading_sign text) → IsAscii text
sign_ascii [] is = is
sign_ascii (b ∷ bs) is = go (eqb b 45) refl is
  where
    go : (sign : Bool) → eqb b 45 ≡ sign → IsAscii (cond sign bs (without_leading_plus (b ∷ bs))) → IsAscii (b ∷ bs)
    go true e rest = ascii_more b bs (grind (arith, nat_tests)) rest
    go false e rest = plus_ascii (b ∷ bs) rest

pub int_no_text : (text : List ℕ) → (IsUtf8 text → ⊥) → int_in text ≡ None
int_no_text text never = elim (cases_Bool (is_numeral (without_leading_sign text) && is_within number.Int (signed_digits_value 10 text))) [
  | inl is ↦ let both = and_parts _ _ is in let numeral = from_numeral (without_leading_sign text) both.0 in
      absurd (never (IsUtf8-from_ascii text (sign_ascii text (IsAscii-from_digits (without_leading_sign text) numeral.1))))
  | inr isnt ↦ int_by text false isnt
]

pub uint_no_text : (text : List ℕ) → (IsUtf8 text → ⊥) → uint_in text ≡ None
uint_no_text text never = elim (cases_Bool (is_numeral (without_leading_plus text) && nat_lt (digits_value 10 (without_leading_plus text)) (2 ^ 64))) [
  | inl is ↦ let both = and_parts _ _ is in let numeral = from_numeral (without_leading_plus text) both.0 in
      absurd (never (IsUtf8-from_ascii text (plus_ascii text (IsAscii-from_digits (without_leading_plus text) numeral.1))))
  | inr isnt ↦ uint_by text false isnt
]

-- ---- ids

pub text_id : (field : List ℕ) → 0 < length field → IsUtf8 field → id_in id.Text field ≡ Some field
text_id field some text =
    ap (λ b. if b then Some field else None) (and_from (nat_lt 0 (length field)) (is_utf8 field) (lt-ltb 0 (length field) some) (is_utf8-from_IsUtf8 field text))

pub no_text_id : (field : List ℕ) → (IsUtf8 field → ⊥) → id_in id.Text field ≡ None
no_text_id field never = ap (λ b. if b then Some field else None) (and_right (nat_lt 0 (length field)) (is_utf8 field) (no_utf8 field never))
