-- Clock: the results of functions, for any calendar.
use Rattle.std.specs.Prelude.{Result, ℤ}
use Rattle.gq_rules_typing.specs.Words as words
use Rattle.gq_time.specs.declared.shown.DateTimeParts.{DateTimeParts}
use Rattle.gq_rules_meaning.specs.Calendars.{Calendar, IsCalendar}
use Rattle.gq_value.specs.Val.{Val}
use Rattle.gq_rules_typing.specs.Statements.{Bytes}
use Rattle.gq_rules_meaning.specs.Answers.{◌>>=◌, found, of_result}
use Rattle.gq_rules_meaning.specs.Meanings.{Outcome, as_number, at_time, if_in_calendar, numbered, said}
use Rattle.gq_rules_meaning.specs.Calls.{text_of}
use Rattle.gq_value.specs.Arithmetic.{absolute}
use Rattle.gq_eval_operand.specs.declared.seen.Seen.{Seen}
use Rattle.gq_eval_operand.specs.declared.halt.Halt.{Halt}
use Rattle.gq_eval_operand.specs.Meant.{meant, Tells}

-- the answer is the one that is meant by every calendar
pub record ByClock (meaning : Calendar → Outcome) (result : Result Seen Halt) : Type 0 where
  pub each : (clock : Calendar) → IsCalendar clock → Tells meant (meaning clock) result

-- a part of a DATETIME, among all of its parts
abbrev pub part_among : words.PartOfTime → DateTimeParts → ℤ
part_among words.Year p = p.year
part_among words.Month p = p.month
part_among words.Day p = p.day
part_among words.Hour p = p.hour
part_among words.Minute p = p.minute
part_among words.Second p = p.second

-- the DATETIME of a number of seconds, or Range if they are none
abbrev pub time_of_epoch : Val → Outcome
time_of_epoch v = as_number v >>= λ x. at_time (if_in_calendar x)

-- the time n units of this name later
abbrev pub later : Calendar → Bytes → ℤ → ℤ → Outcome
later clock unit n x = found (words.unit_named unit) >>= λ u. at_time (clock.add u n x)

-- the absolute value of a number
abbrev pub magnitude_of : Val → Outcome
magnitude_of v = as_number v >>= λ x. of_result (absolute v) >>= numbered

-- a value as a text
abbrev pub spelled : Val → Outcome
spelled v = text_of v >>= said
