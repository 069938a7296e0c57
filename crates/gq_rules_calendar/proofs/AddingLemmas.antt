-- AddingLemmas: adding agrees with gq_time.
use Rattle.std.proofs.Common.{◌≡◌, ℕ, zero, suc, ◌+◌, ◌/◌, ◌%◌, ◌<◌, ◌≤◌, min, Bool, true, false, nat_lt, int_le, refl, sym, ap, subst, ◌∙◌, arith, ℤ, pos, negsuc, ◌+ℤ◌, ◌*ℤ◌, ◌≤ℤ◌, Some, None}
use Rattle.std.specs.Prelude.{if◌then◌else◌}
use Rattle.std.proofs.lemmas.Bool.Decides.{nat_tests}
use Rattle.std.proofs.lemmas.Int.{ints}
use Rattle.jiff_core.specs.declared.civil.date.Date.{Date}
use Rattle.jiff_core.specs.declared.civil.datetime.DateTime.{DateTime}
use Rattle.jiff_core.specs.Calendar.{days_in_month}
use Rattle.jiff_core.specs.Date.{month_length}
use Rattle.jiff_core.specs.Time.{time_seconds}
use Rattle.jiff_core.specs.DateTime.{civil_seconds}
use Rattle.jiff_core.proofs.SignedLemmas.{signed_arith}
use Rattle.jiff_core.proofs.CalendarLemmas.{days_in_month_bounds}
use Rattle.gq_value.specs.Typed.{in_calendar}
use Rattle.gq_time.specs.declared.adding.Unit.{Unit}
use Rattle.gq_time.specs.declared.adding.Unit.TheVariants.{Year, Month, Day, Hour, Minute, Second}
use Rattle.gq_time.specs.Moments.{IsDatetime}
use Rattle.gq_time.specs.Adding.{IsAdded, AreMonthsLater, AreSecondsLater, month_number}
use Rattle.gq_time.proofs.MomentLemmas.{civil_seconds-parts, moment_in_range}
use Rattle.gq_time.proofs.AddingLemmas.{months_later_one, months_later_bound}
use Rattle.gq_rules_meaning.specs.Calendars.{Exactly}
use Rattle.gq_rules_calendar.specs.Days.{days, year, month, day, second_of_day, seconds_at}
use Rattle.gq_rules_calendar.specs.Adding.{if_in_range, seconds_in_month, at_month, months_later, add}
use Rattle.gq_rules_calendar.proofs.NumberLemmas.{both}
use Rattle.gq_rules_calendar.proofs.MomentLemmas.{HasMoment, has_moment}

-- a value if a test holds
if_some : {A : Type 0} (b : Bool) (v y : A) → (if b then Some v else None) ≡ Some y → (b ≡ true) × (v ≡ y)
if_some true v y e = (refl, cc)
if_some false v y e = absurd cc

pub in_calendar-is : (x : ℤ) → in_calendar x ≡ true → IsDatetime x
in_calendar-is x e = let p = both (int_le (negsuc 62_167_219_199) x) (int_le x (pos 253_402_300_799)) e in let a = p.0 in let b = p.1 in (grind (arith, ints), grind (arith, ints))

pub is-in_calendar : (x : ℤ) → IsDatetime x → in_calendar x ≡ true
is-in_calendar x h =
    let a : int_le (negsuc 62_167_219_199) x ≡ true = (let low = h.0 in grind (arith, ints)) in
    let b : int_le x (pos 253_402_300_799) ≡ true = (let high = h.1 in grind (arith, ints)) in
    rw (a, b) refl

pub in_range_gives : (x y : ℤ) → if_in_range x ≡ Some y → (x ≡ y) × IsDatetime y
in_range_gives x y e = let is = if_some (in_calendar x) x y e in (is.1, subst IsDatetime is.1 (in_calendar-is x is.0))

pub in_range_given : (x y : ℤ) → x ≡ y → IsDatetime y → if_in_range x ≡ Some y
in_range_given x y e h = rw (is-in_calendar x (subst IsDatetime (sym e) h)) (ap Some e)

seconds_later : (more x y : ℤ) → Exactly (if_in_range (x +ℤ more) ≡ Some y) (AreSecondsLater more x y)
seconds_later more x y = (λ e. let is = in_range_gives (x +ℤ more) y e in (sym is.0, is.1), λ h. in_range_given (x +ℤ more) y (sym h.0) h.1)

-- ---- months

-- the month after m months
record IsAtMonth (number : ℤ) (d s : ℕ) (y : ℤ) : Type 0 where
  m : ℕ
  is : number ≡ pos (suc m)
  few : m < 120_000
  gives : seconds_in_month m d s ≡ y

at_month_is : (number : ℤ) (d s : ℕ) (y : ℤ) → at_month number d s ≡ Some y → IsAtMonth number d s y
at_month_is (pos zero) d s y e = absurd cc
at_month_is (pos (suc m)) d s y e =
    let is = if_some (nat_lt m 120_000) (seconds_in_month m d s) y e in
    record { m = m; is = refl; few = (let lt = is.0 in grind (arith, nat_tests)); gives = is.1 }
at_month_is (negsuc m) d s y e = absurd cc

at_month_some : (number : ℤ) (d s : ℕ) → pos 1 ≤ℤ number → number ≤ℤ pos 120_000 → (y : ℤ) × (at_month number d s ≡ Some y)
at_month_some (pos zero) d s low high = absurd (omega (arith, signed_arith))
at_month_some (pos (suc m)) d s low high =
    let small : nat_lt m 120_000 ≡ true = (let lt : m < 120_000 = omega (arith, signed_arith) in grind (arith, nat_tests)) in
    (seconds_in_month m d s, rw small refl)
at_month_some (negsuc m) d s low high = absurd (omega (arith, signed_arith))

-- the date of a day in a month after m months
abbrev date_in_month : (m d : ℕ) → m < 120_000 → 1 ≤ d → Date
date_in_month m d few some = record {
  year = pos (m / 12);
  month = m % 12 + 1;
  day = min d (days_in_month (pos (m / 12)) (m % 12 + 1));
  year_in = (omega (arith, signed_arith), omega (arith, signed_arith));
  month_in = (omega arith, omega arith);
  day_in = (omega (arith, days_in_month_bounds (pos (m / 12)) (m % 12 + 1)), omega arith);
}

-- the seconds of a moment, by its time of day
seconds_of : (to : DateTime) (s : ℕ) (y : ℤ) → time_seconds to.time ≡ s → seconds_at to.date.year to.date.month to.date.day s ≡ y → y ≡ civil_seconds to
seconds_of to s y clock is = sym is ∙ ap (seconds_at to.date.year to.date.month to.date.day) (sym clock) ∙ sym (civil_seconds-parts to)

-- its seconds at the time of day of another moment are those `months` later
months_gives : (months x : ℤ) (has : HasMoment x) (y : ℤ) → months_later months x ≡ Some y → AreMonthsLater months x y
months_gives months x has y e =
    let at = at_month_is (year (days x) *ℤ pos 12 +ℤ pos (month (days x)) +ℤ months) (day (days x)) (second_of_day x) y e in
    let from = has.moment in
    let some : 1 ≤ day (days x) = omega arith in
    let date = date_in_month at.m (day (days x)) at.few some in
    let to : DateTime = record { date = date; time = from.time } in
    record {
      from = from;
      to = to;
      of_from = has.of;
      of_to = record {
        are = seconds_of to (second_of_day x) y has.clock at.gives;
        from_year_0 = omega (arith, signed_arith);
        whole = has.of.whole;
      };
      later = record {
        month = omega (arith, signed_arith, at.is, has.year_is, has.month_is);
        day = ap (λ d. min d (month_length date)) (sym has.day_is);
        time = refl;
      };
    }

months_exactly : (months x y : ℤ) → IsDatetime x → Exactly (months_later months x ≡ Some y) (AreMonthsLater months x y)
months_exactly months x y h = (λ e. months_gives months x has y e, back)
  where
    has : HasMoment x
    has = has_moment x h

    back : AreMonthsLater months x y → months_later months x ≡ Some y
    back later =
        let bound = months_later_bound months x y has.moment has.of later in
        let same : month_number has.moment.date +ℤ months ≡ year (days x) *ℤ pos 12 +ℤ pos (month (days x)) +ℤ months = rw (has.year_is, has.month_is) refl in
        let some = at_month_some (year (days x) *ℤ pos 12 +ℤ pos (month (days x)) +ℤ months) (day (days x)) (second_of_day x) (subst (λ z. pos 1 ≤ℤ z) same bound.0) (subst (λ z. z ≤ℤ pos 120_000) same bound.1) in
        some.1 ∙ ap Some (months_later_one months x some.0 y (months_gives months x has some.0 some.1) later)

pub adds_exactly : (u : Unit) (n x y : ℤ) → IsDatetime x → Exactly (add u n x ≡ Some y) (IsAdded u n x y)
adds_exactly Year n x y h = months_exactly (n *ℤ pos 12) x y h
adds_exactly Month n x y h = months_exactly n x y h
adds_exactly Day n x y h = seconds_later (n *ℤ pos 86_400) x y
adds_exactly Hour n x y h = seconds_later (n *ℤ pos 3_600) x y
adds_exactly Minute n x y h = seconds_later (n *ℤ pos 60) x y
adds_exactly Second n x y h = seconds_later n x y

-- the result of adding is in range
pub added_in_range : (u : Unit) (n x y : ℤ) → IsAdded u n x y → IsDatetime y
added_in_range Year n x y h = moment_in_range y h.to h.of_to
added_in_range Month n x y h = moment_in_range y h.to h.of_to
added_in_range Day n x y h = h.1
added_in_range Hour n x y h = h.1
added_in_range Minute n x y h = h.1
added_in_range Second n x y h = h.1
