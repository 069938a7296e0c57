-- Adding: the seconds n units later. Months are counted from the year 0 on.
use Rattle.std.specs.Prelude.{ℕ, zero, suc, ◌+◌, ◌/◌, ◌%◌, min, nat_lt, if◌then◌else◌, ℤ, pos, negsuc, ◌+ℤ◌, ◌*ℤ◌, Option, Some, None}
use Rattle.jiff_core.specs.Calendar.{days_in_month}
use Rattle.gq_value.specs.Typed.{in_calendar}
use Rattle.gq_time.specs.declared.adding.Unit.{Unit}
use Rattle.gq_time.specs.declared.adding.Unit.TheVariants.{Year, Month, Day, Hour, Minute, Second}
use Rattle.gq_rules_calendar.specs.Days.{days, year, month, day, second_of_day, seconds_at}

abbrev pub if_in_range : ℤ → Option ℤ
if_in_range x = if in_calendar x then Some x else None

-- the seconds of a day of the month after m months, or of its last day, at a time of day
abbrev pub seconds_in_month : ℕ → ℕ → ℕ → ℤ
seconds_in_month m day second = seconds_at (pos (m / 12)) (m % 12 + 1) (min day (days_in_month (pos (m / 12)) (m % 12 + 1))) second

-- the same for the month with this number, where 1 is January of the year 0
abbrev pub at_month : ℤ → ℕ → ℕ → Option ℤ
at_month (pos zero) day second = None
at_month (pos (suc m)) day second = if nat_lt m 120_000 then Some (seconds_in_month m day second) else None
at_month (negsuc m) day second = None

abbrev pub months_later : ℤ → ℤ → Option ℤ
months_later months x = at_month (year (days x) *ℤ pos 12 +ℤ pos (month (days x)) +ℤ months) (day (days x)) (second_of_day x)

abbrev pub add : Unit → ℤ → ℤ → Option ℤ
add Year n x = months_later (n *ℤ pos 12) x
add Month n x = months_later n x
add Day n x = if_in_range (x +ℤ n *ℤ pos 86_400)
add Hour n x = if_in_range (x +ℤ n *ℤ pos 3_600)
add Minute n x = if_in_range (x +ℤ n *ℤ pos 60)
add Second n x = if_in_range (x +ℤ n)
