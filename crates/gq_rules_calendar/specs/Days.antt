-- Days: year, month, day and time of day of seconds, by division. Years begin on 1 March here, so that a leap day ends its year,
-- and are counted from the year -10000, which is a multiple of 400.
use Rattle.std.specs.Prelude.{ℕ, ◌+◌, ◌-◌, ◌*◌, ◌/◌, ◌%◌, nat_le, if◌then◌else◌, ℤ, pos, ◌+ℤ◌, ◌-ℤ◌, ◌*ℤ◌, unsigned_abs}
use Rattle.jiff_core.specs.Calendar.{days_from_civil}

-- ---- of the days since 1 March of the year -10000

-- four centuries have 146,097 days
abbrev pub century : ℕ → ℕ
century days = (4 * days + 3) / 146_097

-- quarters of a day since the century's begin, and 3
abbrev pub quarters : ℕ → ℕ
quarters days = (4 * days + 3) % 146_097 / 4 * 4 + 3

-- the year that begins in March, and how many of its days have passed
abbrev pub march_year : ℕ → ℕ
march_year days = 100 * century days + quarters days / 1461

abbrev pub day_of_year : ℕ → ℕ
day_of_year days = quarters days % 1461 / 4

-- its months count from 3 to 14
abbrev pub march_month : ℕ → ℕ
march_month days = (5 * day_of_year days + 461) / 153

abbrev pub year : ℕ → ℤ
year days = pos (if nat_le (march_month days) 12 then march_year days else march_year days + 1) -ℤ pos 10_000

abbrev pub month : ℕ → ℕ
month days = if nat_le (march_month days) 12 then march_month days else march_month days - 12

abbrev pub day : ℕ → ℕ
day days = (5 * day_of_year days + 461) % 153 / 5 + 1

-- ---- of the seconds since 1970

-- the seconds since the year 0 began, for a time from then on
abbrev pub since_year_0 : ℤ → ℕ
since_year_0 seconds = unsigned_abs (seconds +ℤ pos 62_167_219_200)

-- the year 0 began 3,652,365 days after 1 March of the year -10000
abbrev pub days : ℤ → ℕ
days seconds = since_year_0 seconds / 86_400 + 3_652_365

abbrev pub second_of_day : ℤ → ℕ
second_of_day seconds = since_year_0 seconds % 86_400

abbrev pub hour : ℤ → ℕ
hour seconds = second_of_day seconds / 3600

abbrev pub minute : ℤ → ℕ
minute seconds = second_of_day seconds / 60 % 60

abbrev pub second : ℤ → ℕ
second seconds = second_of_day seconds % 60

-- the seconds of a day and a time of day since 1970
abbrev pub seconds_at : ℤ → ℕ → ℕ → ℕ → ℤ
seconds_at y m d second = days_from_civil y m d *ℤ pos 86_400 +ℤ pos second
