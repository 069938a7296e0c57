-- ClockFits: the results of reading and adding in a calendar are times.
use Rattle.std.proofs.Common.{◌≡◌, Bool, true, false, ℤ, pos, negsuc, refl, arith}
use Rattle.std.proofs.lemmas.Bool.{lt-ltb}
use Rattle.std.proofs.lemmas.Int.{ints}
use Rattle.std.specs.Prelude.{◌&&◌, int_le}
use Rattle.gq_graph.specs.Defaults.{is_time}
use Rattle.gq_value.specs.Typed.{in_calendar}
use Rattle.gq_time.specs.Moments.{IsDatetime}
use Rattle.gq_time.specs.Reading.{trimmed}
use Rattle.gq_time.specs.Adding.{IsAdded}
use Rattle.gq_time.specs.declared.adding.Unit.{Unit}
use Rattle.gq_time.specs.declared.adding.Unit.TheVariants as unit
use Rattle.gq_time.proofs.MomentLemmas.{moment_in_range}
use Rattle.gq_time.proofs.ReadingLemmas.{tells_in_range}
use Rattle.gq_rules_store.specs.Stores.{CalendarLaw}
use Rattle.gq_rules_store.proofs.StoreFits.{time_in}

time_is : (x : ℤ) → IsDatetime x → is_time x ≡ true
time_is (pos n) h = lt-ltb n 253402300800 (omega (arith, ints, h.1))
time_is (negsuc n) h = lt-ltb n 62167219200 (omega (arith, ints, h.0))

both : (a b : Bool) → (a && b) ≡ true → (a ≡ true) × (b ≡ true)
both true true h = (refl, refl)
both true false h = absurd (cc h)
both false b h = absurd (cc h)

is_datetime : (x : ℤ) → in_calendar x ≡ true → IsDatetime x
is_datetime x h = let p = both (int_le (negsuc 62167219199) x) (int_le x (pos 253402300799)) h in let a = p.0 in let b = p.1 in (grind (arith, ints), grind (arith, ints))

added : (u : Unit) (n x y : ℤ) → IsAdded u n x y → IsDatetime y
added unit.Year n x y h = moment_in_range y h.to h.of_to
added unit.Month n x y h = moment_in_range y h.to h.of_to
added unit.Day n x y h = h.1
added unit.Hour n x y h = h.1
added unit.Minute n x y h = h.1
added unit.Second n x y h = h.1

pub calendar_law : CalendarLaw
calendar_law clock is = record {
  reads = λ text x e. time_in x (time_is x (tells_in_range (trimmed text) x ((is.reads text x).0 e)));
  adds = λ u n x y h e. time_in y (time_is y (added u n x y ((is.adds u n x y (is_datetime x h)).0 e)));
}
