-- Gregorian: the proleptic Gregorian calendar as functions. `gregorian_is_a_calendar`: they agree with gq_time.
-- It is for contracts, which name a calendar; code calls gq_time.
use Rattle.std.specs.Prelude.{ℕ, ◌++◌, List, ◌∷◌, ℤ, pos, unsigned_abs}
use Rattle.gq_time.specs.Texts.{three_text}
use Rattle.gq_rules_typing.specs.Words.{PartOfTime, Year, Month, Day, Hour, Minute, Second}
use Rattle.gq_rules_meaning.specs.Calendars.{Calendar}
use Rattle.gq_rules_calendar.specs.Days.{days, year, month, day, hour, minute, second}
use Rattle.gq_rules_calendar.specs.Adding.{add}
use Rattle.gq_rules_calendar.specs.Reading.{read}

-- `YYYY-MM-DD HH:MM:SS`
abbrev pub write : ℤ → List ℕ
write x = three_text 4 45 (unsigned_abs (year (days x))) (month (days x)) (day (days x)) ++ 32 ∷ three_text 2 58 (hour x) (minute x) (second x)

abbrev pub part : PartOfTime → ℤ → ℤ
part Year x = year (days x)
part Month x = pos (month (days x))
part Day x = pos (day (days x))
part Hour x = pos (hour x)
part Minute x = pos (minute x)
part Second x = pos (second x)

unfoldable pub gregorian : Calendar
gregorian = record { read = read; write = write; part = part; add = add }
