-- Builtins: the language's own functions, as the code has them.
use Rattle.std.specs.Prelude.{List, [], ◌∷◌, codes}
use Rattle.gq_time.specs.declared.adding.Unit.{Unit}
use Rattle.gq_time.specs.declared.adding.Unit.TheVariants as unit
use Rattle.gq_rules_typing.specs.Statements.{Bytes}
use Rattle.gq_rules_typing.specs.Words.{Function, Abs, ToString, ToDatetime, EpochToDatetime, DatetimeToEpoch, DatetimeDiff, DatetimeAdd, PartOf, PartOfTime, Year, Month, Day, Hour, Minute, Second}
use Rattle.gq_rules_typing.specs.declared.words.Builtin.{Builtin}
use Rattle.gq_rules_typing.specs.declared.words.Builtin.TheVariants as builtin

abbrev pub part_is : Unit → PartOfTime
part_is unit.Year = Year
part_is unit.Month = Month
part_is unit.Day = Day
part_is unit.Hour = Hour
part_is unit.Minute = Minute
part_is unit.Second = Second

abbrev pub builtin_is : Builtin → Function
builtin_is builtin.Abs = Abs
builtin_is builtin.ToString = ToString
builtin_is builtin.ToDatetime = ToDatetime
builtin_is builtin.EpochToDatetime = EpochToDatetime
builtin_is builtin.DatetimeToEpoch = DatetimeToEpoch
builtin_is builtin.DatetimeDiff = DatetimeDiff
builtin_is builtin.DatetimeAdd = DatetimeAdd
builtin_is (builtin.Part part) = PartOf (part_is part)

-- the functions that give a part of a time; they are the last ones of the language
abbrev pub part_functions : List (Bytes × Function)
part_functions =
    (codes "year", PartOf Year) ∷ (codes "month", PartOf Month) ∷ (codes "day", PartOf Day) ∷
    (codes "hour", PartOf Hour) ∷ (codes "minute", PartOf Minute) ∷ (codes "second", PartOf Second) ∷ []
