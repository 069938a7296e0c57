-- Adding: the moment n units after another. Months and years keep the time of day and, if possible, the day of month.
-- The code checks for overflow on the way; here numbers have no bound.
use Rattle.std.specs.Prelude.{◌≡◌, min, ℤ, pos, ◌+ℤ◌, ◌*ℤ◌}
use Rattle.jiff_core.specs.declared.civil.date.Date.{Date}
use Rattle.jiff_core.specs.declared.civil.datetime.DateTime.{DateTime}
use Rattle.jiff_core.specs.Date.{month_length}
use Rattle.gq_time.specs.declared.adding.Unit.{Unit}
use Rattle.gq_time.specs.declared.adding.Unit.TheVariants.{Year, Month, Day, Hour, Minute, Second}
use Rattle.gq_time.specs.Moments.{IsDatetime, IsMoment}

-- the months up to a date's month, from the year 0 on
abbrev pub month_number : Date → ℤ
month_number date = date.year *ℤ pos 12 +ℤ pos date.month

-- `months` later at the same time of day: on the same day of the month, or on the month's last if it has no such day
pub record IsMonthsLater (months : ℤ) (before after : DateTime) : Type 0 where
  pub month : month_number after.date ≡ month_number before.date +ℤ months
  pub day : after.date.day ≡ min before.date.day (month_length after.date)
  pub time : after.time ≡ before.time

-- the seconds of the moment that is `months` after that of other seconds
pub record AreMonthsLater (months seconds after : ℤ) : Type 0 where
  pub from : DateTime
  pub to : DateTime
  pub of_from : IsMoment seconds from
  pub of_to : IsMoment after to
  pub later : IsMonthsLater months from to

-- `more` seconds later, in range
abbrev pub AreSecondsLater : ℤ → ℤ → ℤ → Type 0
AreSecondsLater more seconds after = (after ≡ seconds +ℤ more) × IsDatetime after

-- n units later, in range
abbrev pub IsAdded : Unit → ℤ → ℤ → ℤ → Type 0
IsAdded Year n = AreMonthsLater (n *ℤ pos 12)
IsAdded Month n = AreMonthsLater n
IsAdded Day n = AreSecondsLater (n *ℤ pos 86400)
IsAdded Hour n = AreSecondsLater (n *ℤ pos 3600)
IsAdded Minute n = AreSecondsLater (n *ℤ pos 60)
IsAdded Second n = AreSecondsLater n
