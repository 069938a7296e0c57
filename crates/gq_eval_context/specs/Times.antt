-- Times: a law: the functions by which queries read and write times are a calendar.
use Rattle.gq_rules_meaning.specs.Calendars.{IsCalendar}
use Rattle.gq_rules_calendar.specs.Gregorian.{gregorian}
use Rattle.gq_rules_calendar.proofs.GregorianLaws.{gregorian_is}

pub is_calendar : IsCalendar gregorian
is_calendar = gregorian_is
