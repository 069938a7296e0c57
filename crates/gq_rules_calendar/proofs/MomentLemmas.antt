-- MomentLemmas: seconds in range are those of the moment with the parts that division finds.
use Rattle.std.proofs.Common.{◌≡◌, ℕ, ◌+◌, ◌/◌, ◌%◌, ◌<◌, refl, sym, arith, ℤ, pos, ◌+ℤ◌}
use Rattle.jiff_core.specs.declared.civil.date.Date.{Date}
use Rattle.jiff_core.specs.declared.civil.time.Time.{Time}
use Rattle.jiff_core.specs.declared.civil.datetime.DateTime.{DateTime}
use Rattle.jiff_core.specs.Time.{time_seconds}
use Rattle.jiff_core.specs.DateTime.{civil_seconds}
use Rattle.jiff_core.proofs.SignedLemmas.{signed_arith}
use Rattle.jiff_core.proofs.CalendarLemmas.{days_from_civil-day_count}
use Rattle.gq_time.specs.Moments.{IsDatetime, IsMoment}
use Rattle.gq_time.proofs.MomentLemmas.{civil_seconds-parts, year_in_range}
use Rattle.gq_time.proofs.TimeLemmas.{magnitude}
use Rattle.gq_rules_calendar.specs.Days.{since_year_0, days, second_of_day, year, month, day, hour, minute, second}
use Rattle.gq_rules_calendar.proofs.DayLemmas.{IsDateOf, date_of_days}

-- the seconds since the year 0 began
pub since_year_0-is : (x : ℤ) → IsDatetime x → (pos (since_year_0 x) ≡ x +ℤ pos 62_167_219_200) × (since_year_0 x < 315_569_520_000)
since_year_0-is x h = let is = magnitude (x +ℤ pos 62_167_219_200) (omega (arith, signed_arith)) in (is, omega (arith, signed_arith, is))

-- the date of seconds, and their time of day
abbrev date_made : (count : ℕ) (y : ℤ) (m d : ℕ) → IsDateOf count y m d → Date
date_made count y m d is = record { year = y; month = m; day = d; year_in = is.civil.0; month_in = is.civil.1; day_in = is.civil.2 }

abbrev time_made : (n : ℕ) → n < 86_400 → Time
time_made n h = record {
  hour = n / 3600;
  minute = n / 60 % 60;
  second = n % 60;
  subsec_nanosecond = 0;
  hour_in = omega arith;
  minute_in = omega arith;
  second_in = omega arith;
  subsec_in = omega arith;
}

time_made-seconds : (n : ℕ) (h : n < 86_400) → time_seconds (time_made n h) ≡ n
time_made-seconds n h = omega arith

-- a moment of the seconds, with the parts that division finds
pub record HasMoment (x : ℤ) : Type 0 where
  pub moment : DateTime
  pub of : IsMoment x moment
  pub year_is : moment.date.year ≡ year (days x)
  pub month_is : moment.date.month ≡ month (days x)
  pub day_is : moment.date.day ≡ day (days x)
  pub hour_is : moment.time.hour ≡ hour x
  pub minute_is : moment.time.minute ≡ minute x
  pub second_is : moment.time.second ≡ second x
  pub clock : time_seconds moment.time ≡ second_of_day x

pub has_moment : (x : ℤ) → IsDatetime x → HasMoment x
has_moment x h =
    let since = since_year_0-is x h in
    let date = date_of_days (days x) (omega (arith, since)) (omega (arith, since)) in
    let moment : DateTime = record { date = date_made (days x + 60) (year (days x)) (month (days x)) (day (days x)) date; time = time_made (second_of_day x) (omega arith) } in
    let are : x ≡ civil_seconds moment = omega (arith, signed_arith, civil_seconds-parts moment, days_from_civil-day_count (year (days x)) (month (days x)) (day (days x)), date.value, since, time_made-seconds (second_of_day x) (omega arith)) in
    record {
      moment = moment;
      of = record { are = are; from_year_0 = year_in_range moment (rw (sym are) h); whole = refl };
      year_is = refl;
      month_is = refl;
      day_is = refl;
      hour_is = refl;
      minute_is = refl;
      second_is = refl;
      clock = time_made-seconds (second_of_day x) (omega arith);
    }
