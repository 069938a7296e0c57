-- TimeLemmas: a number of seconds beyond the calendar has the text of one within it.
-- 10,000 years have 3,652,425 days, and years are written with four digits.
use Rattle.std.proofs.Common.{if◌then◌else◌, ◌≡◌, ℕ, suc, ◌+◌, ◌-◌, ◌*◌, ◌/◌, ◌%◌, ◌≤◌, Bool, true, false, nat_le, List, [], ◌∷◌, ◌++◌, refl, sym, ap, ap₂, subst, ◌∙◌, arith, ℤ, pos, ◌-ℤ◌, unsigned_abs}
use Rattle.std.proofs.lemmas.Bool.Decides.{nat_tests}
use Rattle.gq_time.specs.Moments.{IsDatetime}
use Rattle.gq_time.specs.Texts.{IsWritten, digits, three_text}
use Rattle.gq_time.proofs.DigitLemmas.{digits-zero}
use Rattle.gq_time.proofs.TimeLemmas.{magnitude}
use Rattle.jiff_core.proofs.SignedLemmas.{signed_arith}
use Rattle.gq_json.specs.declared.out.Out.TheVariants as out
use Rattle.gq_rules_meaning.specs.Calendars.{IsCalendar}
use Rattle.gq_rules_calendar.specs.Days.{century, quarters, march_year, march_month, year, month, day, since_year_0, days}
use Rattle.gq_rules_calendar.specs.Gregorian.{write, gregorian}
use Rattle.gq_output.specs.Printed.{time_shown}

-- ---- digits

one_more : (k m n : ℕ) → digits k (m / 10) ≡ digits k (n / 10) → m % 10 ≡ n % 10 → digits (suc k) m ≡ digits (suc k) n
unfolding digits
one_more k m n e f = ap₂ (λ ds d. ds ++ (48 + d) ∷ []) e f

four_same : (m n q : ℕ) → m ≡ n + 10_000 * q → digits 4 m ≡ digits 4 n
four_same m n q e =
    one_more 3 m n
    (one_more 2 (m / 10) (n / 10)
    (one_more 1 (m / 10 / 10) (n / 10 / 10) (one_more 0 (m / 10 / 10 / 10) (n / 10 / 10 / 10) (digits-zero (m / 10 / 10 / 10 / 10) ∙ sym (digits-zero (n / 10 / 10 / 10 / 10))) (omega (arith, e))) (omega (arith, e)))
    (omega (arith, e)))
    (omega (arith, e))

-- ---- dates

years_apart : (m n q : ℕ) → m ≡ n + 10_000 * q → 10_000 ≤ n → digits 4 (unsigned_abs (pos m -ℤ pos 10_000)) ≡ digits 4 (unsigned_abs (pos n -ℤ pos 10_000))
years_apart m n q e h =
    let a = magnitude (pos m -ℤ pos 10_000) (omega (arith, signed_arith, e, h)) in
    let b = magnitude (pos n -ℤ pos 10_000) (omega (arith, signed_arith, h)) in
    four_same (unsigned_abs (pos m -ℤ pos 10_000)) (unsigned_abs (pos n -ℤ pos 10_000)) q (omega (arith, signed_arith, a, b, e, h))

module _ (d q e : ℕ) (far : e ≡ d + 3_652_425 * q) (from : 3_652_365 ≤ d) where
  centuries : century e ≡ century d + 100 * q
  centuries = omega (arith, far)

  same_quarters : quarters e ≡ quarters d
  same_quarters = omega (arith, far)

  march_years : march_year e ≡ march_year d + 10_000 * q
  march_years = let c = centuries in let k = ap (λ n. n / 1461) same_quarters in omega (arith, c, k)

  same_month : march_month e ≡ march_month d
  same_month = ap (λ n. (5 * (n % 1461 / 4) + 461) / 153) same_quarters

  abbrev year_at : ℕ → Bool → List ℕ
  year_at n b = digits 4 (unsigned_abs (pos (if b then march_year n else march_year n + 1) -ℤ pos 10_000))

  same_year : digits 4 (unsigned_abs (year e)) ≡ digits 4 (unsigned_abs (year d))
  same_year = ap (λ m. year_at e (nat_le m 12)) same_month ∙ by (nat_le (march_month d) 12) refl
    where
      by : (b : Bool) → nat_le (march_month d) 12 ≡ b → year_at e b ≡ year_at d b
      by true h = years_apart (march_year e) (march_year d) q march_years (let m : march_month d ≤ 12 = grind (arith, nat_tests) in omega (arith, m, from))
      by false h = years_apart (march_year e + 1) (march_year d + 1) q (let m = march_years in omega (arith, m)) (omega (arith, from))

  pub same_date : three_text 4 45 (unsigned_abs (year e)) (month e) (day e) ≡ three_text 4 45 (unsigned_abs (year d)) (month d) (day d)
  same_date =
      ap (λ y. y ++ 45 ∷ (digits 2 (month e) ++ 45 ∷ digits 2 (day e))) same_year
      ∙ ap (λ m. digits 4 (unsigned_abs (year d)) ++ 45 ∷ (digits 2 (if nat_le m 12 then m else m - 12) ++ 45 ∷ digits 2 (day e))) same_month
      ∙ ap (λ n. digits 4 (unsigned_abs (year d)) ++ 45 ∷ (digits 2 (month d) ++ 45 ∷ digits 2 ((5 * (n % 1461 / 4) + 461) % 153 / 5 + 1))) same_quarters

-- ---- times

same_text : (x y : ℤ) (q : ℕ) → since_year_0 x ≡ since_year_0 y + 315_569_520_000 * q → write x ≡ write y
same_text x y q e =
    ap₂ (λ a b. a ++ 32 ∷ b) (same_date (days y) q (days x) (omega (arith, e)) (omega arith))
    (ap (λ n. three_text 2 58 (n / 3600) (n / 60 % 60) (n % 60)) (let z : since_year_0 x % 86_400 ≡ since_year_0 y % 86_400 = omega (arith, e) in z))

text_within : (x y : ℤ) → since_year_0 y ≡ since_year_0 x % 315_569_520_000 → gregorian.write y ≡ gregorian.write x
unfolding gregorian
text_within x y e = sym (same_text x y (since_year_0 x / 315_569_520_000) (omega (arith, e)))

pub written_within : (x y z : ℤ) (text : List ℕ) → IsCalendar gregorian → since_year_0 y ≡ since_year_0 x % 315_569_520_000 → IsDatetime y → z ≡ y → ((other : List ℕ) → IsWritten z other → other ≡ text) → out.Text text ≡ time_shown gregorian x
written_within x y z text is e there same only = ap out.Text (sym (only (gregorian.write y) (subst (λ w. IsWritten w (gregorian.write y)) (sym same) (is.writes y there))) ∙ text_within x y e)
