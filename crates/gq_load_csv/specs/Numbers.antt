-- Numbers: the number that a text of digits writes, and the three numbers of a text with marks between them.
use Rattle.std.proofs.Common.{◌≡◌, ◌⊎◌, ℕ, zero, suc, ◌+◌, ◌-◌, ◌*◌, ◌<◌, ◌≤◌, ◌^◌, List, length, get_or, take, drop, refl, sym, subst, ◌∙◌, arith, inl, inr, add-one}
use Rattle.std.proofs.lemmas.Bool.{cases_lt, cases_eq}
use Rattle.std.proofs.lemmas.List.{take_all}
use Rattle.gq_time.specs.Texts.{digits, three_text}
use Rattle.gq_time.specs.Places.{IsNumber, IsThree}
use Rattle.gq_time.proofs.DigitLemmas.{digits-zero, digits_byte, digits_step, digit_fits}
use Rattle.gq_time.proofs.PlaceLemmas.{has_three, sized, three_found}
use Rattle.gq_load_csv.specs.Deciding.{Decided}

-- the byte of a digit
abbrev pub IsDigit : ℕ → Type 0
IsDigit b = (48 ≤ b) × (b ≤ 57)

digit_or_not : (b : ℕ) → Decided (IsDigit b)
digit_or_not b =
    elim (cases_lt b 48) [
      | inl low ↦ inr (λ is. omega (arith, is.0))
      | inr from ↦ elim (cases_lt 57 b) [ inl high ↦ inr (λ is. omega (arith, is.1)) | inr to ↦ inl (from, to) ]
    ]

-- the first `i` bytes write the number `n`
pub record Begins (text : List ℕ) (i n : ℕ) : Type 0 where
  pub is : take i text ≡ digits i n
  pub fits : n < 10 ^ i

-- one of the first `i` bytes, at `j`, isn't a digit
pub record Breaks (text : List ℕ) (i j : ℕ) : Type 0 where
  pub low : j < i
  pub no_digit : IsDigit (get_or text j 0) → ⊥

first_digits : (text : List ℕ) (i : ℕ) → i ≤ length text → ((n : ℕ) × Begins text i n) ⊎ ((j : ℕ) × Breaks text i j)
first_digits text zero low = inl (0, record { is = sym (digits-zero 0); fits = omega arith })
first_digits text (suc i) low = by (first_digits text i (omega arith)) (digit_or_not (get_or text i 0))
  where
    by : ((n : ℕ) × Begins text i n) ⊎ ((j : ℕ) × Breaks text i j) → Decided (IsDigit (get_or text i 0)) → ((n : ℕ) × Begins text (suc i) n) ⊎ ((j : ℕ) × Breaks text (suc i) j)
    by (inr (j, breaks)) digit = inr (j, record { low = omega (arith, breaks.low); no_digit = breaks.no_digit })
    by (inl (n, begins)) (inr none) = inr (i, record { low = omega arith; no_digit = none })
    by (inl (n, begins)) (inl digit) =
        let d : ℕ = get_or text i 0 - 48 in
        let one : i + 1 ≡ suc i = add-one i in
        let P : ℕ → Type 0 = λ k. Begins text k (n * 10 + d) in
        let more : Begins text (i + 1) (n * 10 + d) = record {
          is = digits_step text i n d (omega arith) begins.is digit.0 digit.1 refl;
          fits = digit_fits i n d begins.fits (omega (arith, digit.1));
        } in
        inl (n * 10 + d, subst P one more)

-- the number that a text writes
pub number_found : (text : List ℕ) → ((n : ℕ) × IsNumber text n) ⊎ ((n : ℕ) → text ≡ digits (length text) n → ⊥)
number_found text = by (first_digits text (length text) (omega arith))
  where
    by : ((n : ℕ) × Begins text (length text) n) ⊎ ((j : ℕ) × Breaks text (length text) j) → ((n : ℕ) × IsNumber text n) ⊎ ((n : ℕ) → text ≡ digits (length text) n → ⊥)
    by (inl (n, begins)) = inl (n, record { is = sym (take_all (length text) text (omega arith)) ∙ begins.is; fits = begins.fits })
    by (inr (j, breaks)) = inr (λ n is.
        let byte : IsDigit (get_or (digits (length text) n) j 0) = digits_byte (length text) n j breaks.low in
        let P : List ℕ → Type 0 = λ l. IsDigit (get_or l j 0) in
        breaks.no_digit (subst P (sym is) byte))

-- the three numbers that a text shows
pub three_found_in : (text : List ℕ) (size mark : ℕ) → ((three : ℕ × ℕ × ℕ) × IsThree text size mark three) ⊎ ((a b c : ℕ) → text ≡ three_text size mark a b c → ⊥)
three_found_in text size mark = long (cases_eq (length text) (size + 6))
  where
    Result : Type 0
    Result = ((three : ℕ × ℕ × ℕ) × IsThree text size mark three) ⊎ ((a b c : ℕ) → text ≡ three_text size mark a b c → ⊥)

    third : length text ≡ size + 6 → get_or text size 0 ≡ mark → get_or text (size + 3) 0 ≡ mark → (a : ℕ) → IsNumber (take size text) a → (b : ℕ) → IsNumber (take 2 (drop (size + 1) text)) b
        → ((n : ℕ) × IsNumber (drop (size + 4) text) n) ⊎ ((n : ℕ) → drop (size + 4) text ≡ digits (length (drop (size + 4) text)) n → ⊥) → Result
    third is one two a first b second (inl (c, last)) = inl ((a, b, c), three_found text size mark (a, b, c) is one two first second last)
    third is one two a first b second (inr none) = inr (λ x y z whole. none z (sized _ 2 z (has_three text size mark x y z whole).third))

    second : length text ≡ size + 6 → get_or text size 0 ≡ mark → get_or text (size + 3) 0 ≡ mark → (a : ℕ) → IsNumber (take size text) a
        → ((n : ℕ) × IsNumber (take 2 (drop (size + 1) text)) n) ⊎ ((n : ℕ) → take 2 (drop (size + 1) text) ≡ digits (length (take 2 (drop (size + 1) text))) n → ⊥) → Result
    second is one two a first (inl (b, next)) = third is one two a first b next (number_found (drop (size + 4) text))
    second is one two a first (inr none) = inr (λ x y z whole. none y (sized _ 2 y (has_three text size mark x y z whole).second))

    first : length text ≡ size + 6 → get_or text size 0 ≡ mark → get_or text (size + 3) 0 ≡ mark
        → ((n : ℕ) × IsNumber (take size text) n) ⊎ ((n : ℕ) → take size text ≡ digits (length (take size text)) n → ⊥) → Result
    first is one two (inl (a, begins)) = second is one two a begins (number_found (take 2 (drop (size + 1) text)))
    first is one two (inr none) = inr (λ x y z whole. none x (sized _ size x (has_three text size mark x y z whole).first))

    mark_two : length text ≡ size + 6 → get_or text size 0 ≡ mark → Decided (get_or text (size + 3) 0 ≡ mark) → Result
    mark_two is one (inl two) = first is one two (number_found (take size text))
    mark_two is one (inr never) = inr (λ x y z whole. never (has_three text size mark x y z whole).mark_two)

    mark_one : length text ≡ size + 6 → Decided (get_or text size 0 ≡ mark) → Result
    mark_one is (inl one) = mark_two is one (cases_eq (get_or text (size + 3) 0) mark)
    mark_one is (inr never) = inr (λ x y z whole. never (has_three text size mark x y z whole).mark_one)

    long : Decided (length text ≡ size + 6) → Result
    long (inl is) = mark_one is (cases_eq (get_or text size 0) mark)
    long (inr never) = inr (λ x y z whole. never (has_three text size mark x y z whole).long)
