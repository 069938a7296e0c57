-- Seconds name moments, and those in range have a year from 0 on.
use Rattle.std.proofs.Common.{◌≡◌, ◌≤◌, refl, sym, ap, ◌∙◌, arith, ℤ, pos, ◌+ℤ◌, ◌*ℤ◌, ◌≤ℤ◌}
use Rattle.std.proofs.lemmas.Int.{by_lt_z}
use Rattle.jiff_core.specs.declared.civil.date.Date.{Date}
use Rattle.jiff_core.specs.declared.civil.time.Time.{Time}
use Rattle.jiff_core.specs.declared.civil.datetime.DateTime.{DateTime}
use Rattle.jiff_core.specs.Calendar.{day_count}
use Rattle.jiff_core.specs.Date.{epoch_day}
use Rattle.jiff_core.specs.DateTime.{civil_seconds}
use Rattle.jiff_core.specs.Time.{time_seconds}
use Rattle.jiff_core.proofs.SignedLemmas.{signed_arith}
use Rattle.jiff_core.proofs.MarchLemmas.{day_count-early}
use Rattle.jiff_core.proofs.CalendarLemmas.{days_from_civil-day_count, day_count-lt_year, day_count-day_of_year, day_count-later_year}
use Rattle.jiff_core.proofs.DateLemmas.{civil, epoch_day_range, epoch_day_injective}
use Rattle.gq_time.specs.declared.shown.DateTimeParts.{DateTimeParts}
use Rattle.gq_time.specs.Moments.{IsDatetime, IsMoment, HasParts}

-- the definition, for a proof that doesn't unfold it
pub civil_seconds-parts : (m : DateTime) → civil_seconds m ≡ epoch_day m.date *ℤ pos 86_400 +ℤ pos (time_seconds m.time)
unfolding civil_seconds
civil_seconds-parts m = refl

day_count-year_0 : day_count (pos 0) 1 1 ≡ 3_652_425
day_count-year_0 = day_count-early (pos 0) 9999 1 1 refl (omega arith) (omega arith) (omega arith)

-- a moment in range has a year from 0 on
pub year_in_range : (m : DateTime) → IsDatetime (civil_seconds m) → pos 0 ≤ℤ m.date.year
year_in_range m h =
    by_lt_z m.date.year (pos 0)
    (λ lt. absurd (omega (arith, signed_arith, civil_seconds-parts m, days_from_civil-day_count m.date.year m.date.month m.date.day, day_count-lt_year m.date.year m.date.month m.date.day (pos 0) 1 1 (civil m.date) (omega arith) lt, day_count-year_0)))
    (λ ge. ge)

-- a date with a year from 0 on has at least this many days before it
day_count-from_year_0 : (d : Date) → pos 0 ≤ℤ d.year → 3_652_425 ≤ day_count d.year d.month d.day
day_count-from_year_0 d h =
    by_lt_z (pos 0) d.year
    (λ lt. omega (arith, day_count-later_year (pos 0) d.year (omega (arith, signed_arith)) lt, day_count-day_of_year d.year d.month d.day d.day_in.0, day_count-year_0, d.day_in))
    (λ le. let is : pos 0 ≡ d.year = omega (arith, signed_arith) in
    omega (arith, day_count-day_of_year d.year d.month d.day d.day_in.0, ap (λ y. day_count y 1 1) is, day_count-year_0, d.day_in))

-- and one with a year from 0 on is in range
pub in_range_from_year : (m : DateTime) → pos 0 ≤ℤ m.date.year → IsDatetime (civil_seconds m)
in_range_from_year m h =
    omega (arith, signed_arith, civil_seconds-parts m, days_from_civil-day_count m.date.year m.date.month m.date.day, day_count-from_year_0 m.date h, epoch_day_range m.date)

-- the seconds of a moment are in range
pub moment_in_range : (s : ℤ) (m : DateTime) → IsMoment s m → IsDatetime s
moment_in_range s m h = omega (arith, signed_arith, h.are, in_range_from_year m h.from_year_0)

-- moments of the same seconds have the same day and the same seconds of the day
pub same_day_and_time : (a b : DateTime) → civil_seconds a ≡ civil_seconds b → (epoch_day a.date ≡ epoch_day b.date) × (time_seconds a.time ≡ time_seconds b.time)
same_day_and_time a b e = omega (arith, signed_arith, civil_seconds-parts a, civil_seconds-parts b)

-- so they have the same year, month and day
pub same_date : (a b : DateTime) → civil_seconds a ≡ civil_seconds b → (a.date.year ≡ b.date.year) × (a.date.month ≡ b.date.month) × (a.date.day ≡ b.date.day)
same_date a b e = epoch_day_injective a.date b.date (same_day_and_time a b e).0

-- parts with the same fields are the same
same_parts : (p q : DateTimeParts) → p.year ≡ q.year → p.month ≡ q.month → p.day ≡ q.day → p.hour ≡ q.hour → p.minute ≡ q.minute → p.second ≡ q.second → p ≡ q
same_parts p q year month day hour minute second =
    λ i. record { year = year i; month = month i; day = day i; hour = hour i; minute = minute i; second = second i }

-- and the same time of day
pub same_time : (a b : Time) → time_seconds a ≡ time_seconds b → (a.hour ≡ b.hour) × (a.minute ≡ b.minute) × (a.second ≡ b.second)
same_time a b e = (omega (arith, a.hour_in, b.hour_in, a.minute_in, b.minute_in, a.second_in, b.second_in), omega (arith, a.minute_in, b.minute_in, a.second_in, b.second_in), omega (arith, a.second_in, b.second_in))

-- seconds have the same parts
pub parts_same : (s : ℤ) (p q : DateTimeParts) → HasParts s p → HasParts s q → p ≡ q
parts_same s p q (a, h, shows) (b, k, shown) =
    let same = sym h.are ∙ k.are in
    let date = same_date a b same in
    let time = same_time a.time b.time (same_day_and_time a b same).1 in
    same_parts p q (shows.year ∙ date.0 ∙ sym shown.year) (shows.month ∙ ap pos date.1 ∙ sym shown.month) (shows.day ∙ ap pos date.2 ∙ sym shown.day)
    (shows.hour ∙ ap pos time.0 ∙ sym shown.hour) (shows.minute ∙ ap pos time.1 ∙ sym shown.minute) (shows.second ∙ ap pos time.2 ∙ sym shown.second)
