-- GregorianLaws: the calendar agrees with gq_time, and stays in its range.
use Rattle.std.proofs.Common.{refl, sym, ap, ℤ, pos}
use Rattle.gq_time.specs.Moments.{IsDatetime, HasParts}
use Rattle.gq_time.specs.Texts.{IsWritten}
use Rattle.gq_time.proofs.ReadingLemmas.{tells_in_range}
use Rattle.gq_rules_meaning.specs.Calendars.{IsCalendar, StaysInRange, parts_of}
use Rattle.gq_rules_calendar.specs.Gregorian.{write, gregorian}
use Rattle.gq_rules_calendar.proofs.MomentLemmas.{has_moment}
use Rattle.gq_rules_calendar.proofs.AddingLemmas.{adds_exactly, in_calendar-is, is-in_calendar, added_in_range}
use Rattle.gq_rules_calendar.proofs.ReadingLemmas.{reads_exactly}

writes : (x : ℤ) → IsDatetime x → IsWritten x (write x)
writes x h =
    let has = has_moment x h in
    let m = has.moment in
    record {
      moment = m;
      of_moment = has.of;
      is = rw (has.year_is, has.month_is, has.day_is, has.hour_is, has.minute_is, has.second_is) refl;
    }

shows : (x : ℤ) → IsDatetime x → HasParts x (parts_of gregorian x)
unfolding gregorian
shows x h =
    let has = has_moment x h in (
      has.moment,
      has.of,
      record {
        year = sym has.year_is;
        month = ap pos (sym has.month_is);
        day = ap pos (sym has.day_is);
        hour = ap pos (sym has.hour_is);
        minute = ap pos (sym has.minute_is);
        second = ap pos (sym has.second_is);
      },
    )

pub gregorian_is : IsCalendar gregorian
unfolding gregorian
gregorian_is = record { reads = reads_exactly; writes = writes; shows = shows; adds = adds_exactly }

pub gregorian_stays : StaysInRange gregorian
unfolding gregorian
gregorian_stays = record {
  reads = λ text x e. is-in_calendar x (tells_in_range _ x ((reads_exactly text x).0 e));
  adds = λ u n x y at e. is-in_calendar y (added_in_range u n x y ((adds_exactly u n x y (in_calendar-is x at)).0 e));
}
