-- DayLemmas: the parts that division finds are those of a date that there is.
use Rattle.std.proofs.Common.{◌≡◌, ℕ, suc, ◌+◌, ◌-◌, ◌*◌, ◌/◌, ◌%◌, ◌<◌, ◌≤◌, Bool, true, false, nat_le, refl, sym, ap, arith, ℤ, pos, ◌-ℤ◌}
use Rattle.std.specs.Prelude.{if◌then◌else◌}
use Rattle.std.proofs.lemmas.Bool.Decides.{nat_tests}
use Rattle.jiff_core.specs.Calendar.{day_count, IsCivilDate}
use Rattle.jiff_core.specs.March.{march_days}
use Rattle.jiff_core.proofs.SignedLemmas.{signed_arith}
use Rattle.jiff_core.proofs.MarchLemmas.{leap_day, leap_day-shift, march_days-suc, day_count-early, day_count-late, month_and_day, day_in_month, day_in_early_month}
use Rattle.gq_rules_calendar.specs.Days.{march_year, day_of_year, march_month, year, month, day}

-- a year that begins in March, and a place in it
pub record IsMarchYear (days y n : ℕ) : Type 0 where
  pub value : march_days y + n ≡ days
  pub within : days < march_days (y + 1)
  pub bound : n < 366

pub is_march_year : (days : ℕ) → days < 7_400_000 → IsMarchYear days (march_year days) (day_of_year days)
is_march_year days h = record { value = omega arith; within = omega arith; bound = omega arith }

-- a date that there is, with its count of days from 1 January of the year -10000
pub record IsDateOf (count : ℕ) (y : ℤ) (m d : ℕ) : Type 0 where
  pub civil : IsCivilDate y m d
  pub value : day_count y m d ≡ count

-- from March to December
late_date : (days y n : ℕ) → 306 ≤ days → days ≤ 7_304_789 → IsMarchYear days y n → (5 * n + 461) / 153 ≤ 12
    → IsDateOf (days + 60) (pos y -ℤ pos 10_000) ((5 * n + 461) / 153) ((5 * n + 461) % 153 / 5 + 1)
late_date days y n low high is early =
    let value = is.value in let bound = is.bound in
    let place = month_and_day n bound in
    let some : 1 ≤ y = omega arith in
    let few : y ≤ 19_999 = omega arith in
    let count = day_count-late (pos y -ℤ pos 10_000) y ((5 * n + 461) / 153) ((5 * n + 461) % 153 / 5 + 1) (omega (arith, signed_arith)) (omega arith) early (omega arith) in
    record {
      civil = ((omega (arith, signed_arith), omega (arith, signed_arith)), (omega arith, early), (omega arith, day_in_month (pos y -ℤ pos 10_000) n early));
      value = omega (arith, count);
    }

-- January and February
early_date : (days y n : ℕ) → 306 ≤ days → days ≤ 7_304_789 → IsMarchYear days y n → 12 < (5 * n + 461) / 153
    → IsDateOf (days + 60) (pos (y + 1) -ℤ pos 10_000) ((5 * n + 461) / 153 - 12) ((5 * n + 461) % 153 / 5 + 1)
early_date days y n low high is late =
    let value = is.value in let bound = is.bound in let within = is.within in
    let place = month_and_day n bound in
    let few : y ≤ 19_998 = omega arith in
    let same : y + 1 ≡ suc y = omega arith in
    let next : march_days (suc y) ≡ march_days (y + 1) = ap march_days (sym same) in
    let leap = leap_day-shift (pos (y + 1) -ℤ pos 10_000) (suc y) (omega (arith, signed_arith)) in
    let long : n < 365 + leap_day (pos (y + 1) -ℤ pos 10_000) = omega (arith, march_days-suc y) in
    let back : (5 * n + 461) / 153 - 12 + 12 ≡ (5 * n + 461) / 153 = omega arith in
    let count = rw back at (day_count-early (pos (y + 1) -ℤ pos 10_000) y ((5 * n + 461) / 153 - 12) ((5 * n + 461) % 153 / 5 + 1) (omega (arith, signed_arith)) (omega arith) (omega arith) (omega arith)) in
    record {
      civil = ((omega (arith, signed_arith), omega (arith, signed_arith)), (omega arith, omega arith), (omega arith, day_in_early_month (pos (y + 1) -ℤ pos 10_000) n late long));
      value = omega (arith, count);
    }

-- the parts that division finds
pub date_of_days : (days : ℕ) → 306 ≤ days → days ≤ 7_304_789 → IsDateOf (days + 60) (year days) (month days) (day days)
date_of_days days low high = by (nat_le (march_month days) 12) refl
  where
    by : (b : Bool) → nat_le (march_month days) 12 ≡ b
        → IsDateOf (days + 60) (pos (if b then march_year days else march_year days + 1) -ℤ pos 10_000) (if b then march_month days else march_month days - 12) (day days)
    by true e = late_date days (march_year days) (day_of_year days) low high (is_march_year days (omega arith)) (grind (arith, nat_tests))
    by false e = early_date days (march_year days) (day_of_year days) low high (is_march_year days (omega arith)) (grind (arith, nat_tests))
