-- Calendars: reading, writing and adding times as functions, as specified by the definitions of gq_time.
-- The code calls gq_time; a calendar gives the same answers.
use Rattle.std.specs.Prelude.{◌≡◌, ℕ, true, List, ℤ, Option, Some}
use Rattle.gq_value.specs.Typed.{in_calendar}
use Rattle.gq_rules_typing.specs.Unit.{Unit}
use Rattle.gq_rules_typing.specs.DateTimeParts.{DateTimeParts}
use Rattle.gq_rules_typing.specs.Moments.{IsDatetime, HasParts}
use Rattle.gq_rules_typing.specs.Texts.{IsWritten}
use Rattle.gq_rules_typing.specs.Reading.{Reads}
use Rattle.gq_rules_typing.specs.Adding.{IsAdded}
use Rattle.gq_rules_typing.specs.Words.{PartOfTime, Year, Month, Day, Hour, Minute, Second}

pub record Calendar : Type 0 where
  pub read : List ℕ → Option ℤ
  pub write : ℤ → List ℕ
  pub part : PartOfTime → ℤ → ℤ
  pub add : Unit → ℤ → ℤ → Option ℤ

-- the same holds on both sides
abbrev pub Exactly : Type 0 → Type 0 → Type 0
Exactly A B = (A → B) × (B → A)

-- all parts of the seconds
abbrev pub parts_of : Calendar → ℤ → DateTimeParts
parts_of clock x = record { year = clock.part Year x; month = clock.part Month x; day = clock.part Day x; hour = clock.part Hour x; minute = clock.part Minute x; second = clock.part Second x }

-- a calendar reads, writes, shows and adds as gq_time specifies
pub record IsCalendar (clock : Calendar) : Type 0 where
  pub reads : (text : List ℕ) (x : ℤ) → Exactly (clock.read text ≡ Some x) (Reads text x)
  pub writes : (x : ℤ) → IsDatetime x → IsWritten x (clock.write x)
  pub shows : (x : ℤ) → IsDatetime x → HasParts x (parts_of clock x)
  pub adds : (u : Unit) (n x y : ℤ) → IsDatetime x → Exactly (clock.add u n x ≡ Some y) (IsAdded u n x y)

-- the times that it reads and returns are in range
pub record StaysInRange (clock : Calendar) : Type 0 where
  pub reads : (text : List ℕ) (x : ℤ) → clock.read text ≡ Some x → in_calendar x ≡ true
  pub adds : (u : Unit) (n x y : ℤ) → in_calendar x ≡ true → clock.add u n x ≡ Some y → in_calendar y ≡ true
