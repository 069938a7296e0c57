-- Texts of 1 to 18 digits: what a pass over them has read so far, and their value in the end.
use Rattle.std.proofs.Common.{◌≡◌, ℕ, suc, ◌+◌, ◌-◌, ◌*◌, ◌<◌, ◌≤◌, ◌^◌, List, [], ◌∷◌, length, drop, get_or, add-one, Some, pos, false, eqb, refl, sym, ap, subst, ◌∙◌, arith, w64, FitsSigned, inl, inr}
use Rattle.std.specs.Option.{option_map}
use Rattle.std.specs.Fmt.{decimal, signed_decimal}
use Rattle.std.specs.Int.{IsInRange}
use Rattle.std.specs.Str.Parse.{AllDigits, IsNumeral, digits_value, digits_value_after, without_leading_plus, without_leading_sign, signed_digits_value}
use Rattle.std.specs.Char.{digit_value}
use Rattle.std.proofs.lemmas.Bool.{cases_Bool, eqb-true}
use Rattle.std.proofs.lemmas.Str.{digit_value_digit}
use Rattle.std.proofs.lemmas.Str.Parse.{numerals_by_value, tells_digits, digit_from_value}
use Rattle.std.proofs.lemmas.Fmt.{decimal-digits_value, IsAscii-from_digits}
use Rattle.std.proofs.lemmas.Str.{IsUtf8-from_ascii}
use Rattle.std.proofs.lemmas.Bool.Decides.{nat_tests}
use Rattle.std.specs.Prelude.{IsUtf8}
use Rattle.std.proofs.Math.Nat.{pow-le-pow_right, pow-succ'}
use Rattle.std.proofs.Math.Seq.{drop-cons}
use Rattle.std.proofs.Math.ListN.{drop_of_length-le}
use Rattle.gq_load_csv.specs.Digits.{IsShort, IsOwn, has_leading_zero}
use Rattle.gq_load_csv.specs.Texts.{int_in, uint_in}
use Rattle.gq_load_csv.proofs.BlankLemmas.{trimmed_short}
use Rattle.gq_load_csv.proofs.TextLemmas.{int_read, uint_read}

-- ---- a pass over digits

-- the state of a pass over a text of 1 to 18 digits, up to a place
pub record SoFar (text : List ℕ) (place number : ℕ) : Type 0 where
  pub some : 0 < length text
  pub few : length text ≤ 18
  pub digits : AllDigits 10 (drop place text) → AllDigits 10 text
  pub value : digits_value 10 text ≡ digits_value_after 10 number (drop place text)
  pub fits : number < 10 ^ place

pub at_first : (text : List ℕ) → 0 < length text → length text ≤ 18 → SoFar text 0 0
at_first text some few = record { some = some; few = few; digits = λ d. d; value = refl; fits = omega arith }

-- appending a digit keeps a number below the next power, which is at most 10^18
below : (k n d : ℕ) → n < 10 ^ k → d < 10 → n * 10 + d < 10 ^ suc k
below k n d low digit = omega (arith, pow-succ' 10 k)

pub no_overflow : (text : List ℕ) (i n d : ℕ) → SoFar text i n → i < length text → d < 10 → n * 10 + d < 10 ^ 18
no_overflow text i n d so place digit =
    let small : n * 10 + d < 10 ^ suc i = below i n d so.fits digit in
    let room : suc i ≤ 18 = omega (arith, so.few) in
    let most : 10 ^ suc i ≤ 10 ^ 18 = pow-le-pow_right {n = 10} (omega arith) {i = suc i} {j = 18} room in
    omega (arith, small, most)

pub one_more : (text : List ℕ) (i n c : ℕ) → SoFar text i n → i < length text → get_or text i 0 ≡ c → IsInRange 48 57 c → SoFar text (i + 1) (n * 10 + (c - 48))
one_more text i n c so low at digit =
    let d : digit_value c ≡ c - 48 = omega (arith, digit_value_digit c digit) in
    let next : drop i text ≡ c ∷ drop (i + 1) text = drop-cons text i 0 low ∙ ap (λ b. b ∷ drop (suc i) text) at ∙ ap (λ k. c ∷ drop k text) (sym (add-one i)) in
    record {
      some = so.some;
      few = so.few;
      digits = λ others. so.digits (subst (AllDigits 10) (sym next) (omega (arith, d, digit.1), others));
      value = so.value ∙ ap (digits_value_after 10 n) next ∙ ap (λ x. digits_value_after 10 (n * 10 + x) (drop (i + 1) text)) d;
      fits = subst (λ k. n * 10 + (c - 48) < 10 ^ k) (sym (add-one i)) (below i n (c - 48) so.fits (omega (arith, digit.1)));
    }

pub all_read : (text : List ℕ) (i n : ℕ) → SoFar text i n → length text ≤ i → i ≤ length text → IsShort text n
all_read text i n so high low =
    let none : drop i text ≡ [] = drop_of_length-le text high in
    let same : i ≡ length text = omega arith in
    let power : 10 ^ i ≤ 10 ^ 18 = pow-le-pow_right {n = 10} (omega arith) {i = i} {j = 18} (omega (arith, so.few, same)) in
    record {
      numeral = (so.some, so.digits (subst (AllDigits 10) (sym none) tt));
      value = sym (so.value ∙ ap (digits_value_after 10 n) none);
      fits = omega (arith, so.fits, power);
    }

-- ---- their values

no_sign : (text : List ℕ) (sign : ℕ) → IsNumeral 10 text → sign < 48 → eqb (get_or text 0 0) sign ≡ false
no_sign [] sign is low = absurd (omega (arith, is.0))
no_sign (c ∷ cs) sign is low = elim (cases_Bool (eqb c sign)) [
  | inl same ↦ absurd (omega (arith, eqb-true c sign same, (digit_from_value c is.1.0).0))
  | inr other ↦ other
]

plain_plus : (text : List ℕ) → IsNumeral 10 text → without_leading_plus text ≡ text
plain_plus text is = rw (no_sign text 43 is (omega arith)) refl

plain_sign : (text : List ℕ) → IsNumeral 10 text → without_leading_sign text ≡ text
plain_sign text is = rw (no_sign text 45 is (omega arith)) (plain_plus text is)

plain_value : (text : List ℕ) → IsNumeral 10 text → signed_digits_value 10 text ≡ pos (digits_value 10 text)
plain_value text is = rw (no_sign text 45 is (omega arith)) (ap (λ ds. pos (digits_value 10 ds)) (plain_plus text is))

pub int_short : (text : List ℕ) (n : ℕ) → IsShort text n → int_in text ≡ Some (pos n)
int_short text n is =
    let value : pos n ≡ signed_digits_value 10 text = ap pos is.value ∙ sym (plain_value text is.numeral) in
    let low : n < 2 ^ 63 = omega (arith, is.fits) in
    let fits : FitsSigned w64 (pos n) = record { sfits = low } in
    int_read ℕ text (pos n) ((subst (IsNumeral 10) (sym (plain_sign text is.numeral)) is.numeral, subst (FitsSigned w64) value fits), value)

pub uint_short : (text : List ℕ) (n : ℕ) → IsShort text n → uint_in text ≡ Some n
uint_short text n is =
    let value : n ≡ digits_value 10 (without_leading_plus text) = is.value ∙ ap (digits_value 10) (sym (plain_plus text is.numeral)) in
    let low : n < 2 ^ 64 = omega (arith, is.fits) in
    uint_read ℕ text n ((subst (IsNumeral 10) (sym (plain_plus text is.numeral)) is.numeral, subst (λ x. x < 2 ^ 64) value low), value)

-- a numeral that begins with a zero, with no leading zero, is the single digit zero
lone_zero : (text : List ℕ) → 0 < length text → has_leading_zero text ≡ false → get_or text 0 0 ≡ 48 → length text ≡ 1
lone_zero [] some front is = absurd (omega arith)
lone_zero (c ∷ []) some front is = refl
lone_zero (c ∷ d ∷ ds) some front is = absurd (grind (arith, nat_tests))

-- without a leading zero it is the shortest text of its number
pub own_short : (text : List ℕ) (n : ℕ) → IsShort text n → has_leading_zero text ≡ false → IsOwn text
own_short text n is front =
    let low : digits_value 10 text < 2 ^ 64 = omega (arith, is.fits, is.value) in
    let shortest : decimal n ≡ text = ap decimal is.value ∙ decimal-digits_value (numerals_by_value _ tells_digits) text is.numeral.1 is.numeral.0 (lone_zero text is.numeral.0 front) low in
    record {
      int = ap (option_map signed_decimal) (int_short text n is) ∙ ap (λ t. Some t) shortest;
      uint = ap (option_map decimal) (uint_short text n is) ∙ ap (λ t. Some t) shortest;
      whole = trimmed_short text n is;
    }

pub text_short : (text : List ℕ) (n : ℕ) → IsShort text n → IsUtf8 text
text_short text n is = IsUtf8-from_ascii text (IsAscii-from_digits text is.numeral.1)
