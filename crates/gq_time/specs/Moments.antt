-- Moments: which seconds a date and a time of day are, in the proleptic Gregorian calendar, without zone and leap seconds.
-- Dates and times of day are jiff's, which has only those that exist. The code finds them by division.
use Rattle.std.specs.Prelude.{◌≡◌, ℤ, pos, neg_ℤ, ◌≤ℤ◌}
use Rattle.jiff_core.specs.declared.civil.datetime.DateTime.{DateTime}
use Rattle.jiff_core.specs.Calendar.{IsBetween}
use Rattle.jiff_core.specs.DateTime.{civil_seconds}
use Rattle.gq_time.specs.declared.shown.DateTimeParts.{DateTimeParts}

-- the seconds lie from 0000-01-01 00:00:00 to 9999-12-31 23:59:59
abbrev pub IsDatetime : ℤ → Type 0
IsDatetime seconds = IsBetween (neg_ℤ (pos 62_167_219_200)) (pos 253_402_300_799) seconds

-- the seconds are those of this moment: 86400 for each day since 1970-01-01, and those since midnight
pub record IsMoment (seconds : ℤ) (moment : DateTime) : Type 0 where
  pub are : seconds ≡ civil_seconds moment
  pub from_year_0 : pos 0 ≤ℤ moment.date.year
  pub whole : moment.time.subsec_nanosecond ≡ 0

-- a moment has these parts
pub record ShowsParts (moment : DateTime) (parts : DateTimeParts) : Type 0 where
  pub year : parts.year ≡ moment.date.year
  pub month : parts.month ≡ pos moment.date.month
  pub day : parts.day ≡ pos moment.date.day
  pub hour : parts.hour ≡ pos moment.time.hour
  pub minute : parts.minute ≡ pos moment.time.minute
  pub second : parts.second ≡ pos moment.time.second

-- the seconds are those of a moment with these parts
abbrev pub HasParts : ℤ → DateTimeParts → Type 0
HasParts seconds parts = (moment : DateTime) × IsMoment seconds moment × ShowsParts moment parts
