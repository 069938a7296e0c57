-- Which texts are numbers of an option, and which aren't.
use Rattle.std.proofs.Common.{◌≡◌, ℕ, zero, suc, ◌<◌, ◌≤◌, List, [], ◌∷◌, Some, None, length, Bool, true, false, inl, inr, refl, ap, sym, ◌∙◌, arith}
use Rattle.std.specs.Prelude.{Ok, Err, if◌then◌else◌, nat_le, IsTrue, EachIndex, slice_index, ◌⊎◌}
use Rattle.std.proofs.lemmas.Bool.{le-leb, lt-leb, and_from, and_left, and_right, and_parts, cases_Bool, cases_lt}
use Rattle.std.proofs.lemmas.Str.Parse.{IsNumeralModel, numerals_by_value, tells_all_ascii_digits, digits_value_short, parse_digits}
use Rattle.std.specs.Char.{is_ascii_digit}
use Rattle.std.specs.Str.{all_ascii_digits}
use Rattle.std.specs.Str.Parse.{digits_value, ParsesUnsigned}
use Rattle.gq_command.specs.Number.{is_number, is_number_to, number_to}

-- ---- digits

-- each byte is a digit
abbrev pub EachIsDigit : List ℕ → Type 0
EachIsDigit text = EachIndex text (λ k. IsTrue (is_ascii_digit (slice_index text k)))

-- a text of digits, byte by byte
pub digits_from_each : (text : List ℕ) → EachIsDigit text → all_ascii_digits text ≡ true
digits_from_each [] each = refl
digits_from_each (c ∷ cs) each = and_from (is_ascii_digit c) (all_ascii_digits cs) (each 0 (omega arith)) (digits_from_each cs (λ k below. each (suc k) (omega arith)))

each_from_digits : (text : List ℕ) → all_ascii_digits text ≡ true → EachIsDigit text
each_from_digits [] digits k below = absurd (omega arith)
each_from_digits (c ∷ cs) digits zero below = (and_parts (is_ascii_digit c) (all_ascii_digits cs) digits).0
each_from_digits (c ∷ cs) digits (suc k) below = each_from_digits cs (and_parts (is_ascii_digit c) (all_ascii_digits cs) digits).1 k (omega arith)

-- a text that also has other bytes
pub other_bytes : (text : List ℕ) → (EachIsDigit text → ⊥) → all_ascii_digits text ≡ false
other_bytes text other = elim (cases_Bool (all_ascii_digits text)) [
  | inl digits ↦ absurd (other (each_from_digits text digits))
  | inr others ↦ others
]

-- ---- std's digits and their value
own : IsNumeralModel (λ ds. all_ascii_digits ds ≡ true) (digits_value 10)
own = numerals_by_value _ tells_all_ascii_digits

-- ---- the test

-- whether a text is a number is decided by the test
by_test : (most : ℕ) (text : List ℕ) (is : Bool) → is_number_to most text ≡ is → number_to most text ≡ (if is then Some (digits_value 10 text) else None)
unfolding number_to
by_test most text is told = ap (λ b. if b then Some (digits_value 10 text) else None) told

-- a text that is a number in the range
is_taken : (most : ℕ) (text : List ℕ) → all_ascii_digits text ≡ true → 1 ≤ length text → length text ≤ 10 → 1 ≤ digits_value 10 text → digits_value 10 text ≤ most → number_to most text ≡ Some (digits_value 10 text)
is_taken most text digits some short least fits =
    by_test most text true
    (and_from _ _ (and_from _ _ digits (and_from _ _ (le-leb 1 (length text) some) (le-leb (length text) 10 short)))
    (and_from _ _ (le-leb 1 (digits_value 10 text) least) (le-leb (digits_value 10 text) most fits)))

-- texts that aren't
not_number : (most : ℕ) (text : List ℕ) → is_number text ≡ false → number_to most text ≡ None
not_number most text isnt = by_test most text false (and_left _ _ isnt)

pub no_digits : (most : ℕ) (text : List ℕ) → (EachIsDigit text → ⊥) → number_to most text ≡ None
no_digits most text other = not_number most text (and_left _ _ (other_bytes text other))

too_short : (most : ℕ) (text : List ℕ) → length text < 1 → number_to most text ≡ None
too_short most text short = not_number most text (and_right (all_ascii_digits text) _ (and_left _ _ (lt-leb 1 (length text) short)))

pub too_long : (most : ℕ) (text : List ℕ) → 10 < length text → number_to most text ≡ None
too_long most text long = not_number most text (and_right (all_ascii_digits text) _ (and_right (nat_le 1 (length text)) _ (lt-leb (length text) 10 long)))

too_small : (most : ℕ) (text : List ℕ) → digits_value 10 text < 1 → number_to most text ≡ None
too_small most text small = by_test most text false (and_right (is_number text) _ (and_left _ _ (lt-leb 1 (digits_value 10 text) small)))

too_large : (most : ℕ) (text : List ℕ) → most < digits_value 10 text → number_to most text ≡ None
too_large most text large = by_test most text false (and_right (is_number text) _ (and_right (nat_le 1 (digits_value 10 text)) _ (lt-leb (digits_value 10 text) most large)))

-- ---- what std parsed

-- a number that std parsed is the value of at least one digit
is_value : (text : List ℕ) (number : ℕ) → ParsesUnsigned {E = ℕ} 64 10 text (Ok number) → all_ascii_digits text ≡ true → (1 ≤ length text) × (number ≡ digits_value 10 text)
is_value text number told digits = let all = parse_digits own {E = ℕ} 64 text (Ok number) told digits in (omega (arith, all.0.0), all.1)

-- a number that std parsed, in the range
pub in_range : (most : ℕ) (text : List ℕ) (number : ℕ) → ParsesUnsigned {E = ℕ} 64 10 text (Ok number) → EachIsDigit text → length text ≤ 10 → 1 ≤ number → number ≤ most → number_to most text ≡ Some number
in_range most text number told each short least fits =
    let digits = digits_from_each text each in
    let is = is_value text number told digits in
    is_taken most text digits is.0 short (omega (arith, is.1)) (omega (arith, is.1)) ∙ ap (λ n. Some n) (sym is.1)

-- a number outside of the range
pub out_of_range : (most : ℕ) (text : List ℕ) (number : ℕ) → ParsesUnsigned {E = ℕ} 64 10 text (Ok number) → EachIsDigit text → ((1 ≤ number) × (most < number)) ⊎ (number < 1) → number_to most text ≡ None
out_of_range most text number told each (inl large) = let is = is_value text number told (digits_from_each text each) in too_large most text (omega (arith, is.1, large.1))
out_of_range most text number told each (inr small) = let is = is_value text number told (digits_from_each text each) in too_small most text (omega (arith, is.1))

-- up to ten digits that std can't parse aren't a number
pub unread : {E : Type 0} (most : ℕ) (text : List ℕ) (error : E) → ParsesUnsigned 64 10 text (Err error) → EachIsDigit text → length text ≤ 10 → number_to most text ≡ None
unread {E} most text error told each short =
    let digits = digits_from_each text each in
    let refused = parse_digits own {E = E} 64 text (Err error) told digits in
    elim (cases_lt 0 (length text)) [
      | inl some ↦ absurd (refused (some, omega (arith, digits_value_short own text 10 digits short)))
      | inr empty ↦ too_short most text (omega arith)
    ]
