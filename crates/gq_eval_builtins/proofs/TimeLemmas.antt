-- TimeLemmas: the results of any calendar, from the specification in gq_time.
use Rattle.std.proofs.Common.{◌≡◌, ℕ, Bool, true, false, ℤ, pos, negsuc, List, [], ◌∷◌, Option, Some, None, Result, Err, refl, sym, ap, subst, ◌∙◌, arith}
use Rattle.std.proofs.lemmas.Int.{ints}
use Rattle.std.specs.Prelude.{◌&&◌, ◌-ℤ◌, int_le, IfSome, IfNone}
use Rattle.gq_value.specs.declared.value.Wrong.{Wrong}
use Rattle.gq_value.specs.Val.{Val, Int, UInt, Truth, Text, Vertex, Tuple, Fraction}
use Rattle.gq_value.specs.Typed.{in_calendar}
use Rattle.gq_time.specs.declared.adding.Unit.{Unit}
use Rattle.gq_time.specs.declared.shown.DateTimeParts as shown
use Rattle.gq_time.specs.Moments.{IsDatetime, HasParts}
use Rattle.gq_time.specs.Reading.{Reads}
use Rattle.gq_time.specs.Adding.{IsAdded}
use Rattle.gq_rules_typing.specs.Words.{PartOfTime, Year, Month, Day, Hour, Minute, Second, ToDatetime, DatetimeToEpoch, DatetimeDiff, DatetimeAdd, PartOf, unit_named}
use Rattle.gq_rules_meaning.specs.Answers.{Answer, Gives, Faults, Stuck, ◌>>=◌, found}
use Rattle.gq_rules_meaning.specs.Calendars.{Calendar, IsCalendar, parts_of}
use Rattle.gq_rules_meaning.specs.Meanings.{Outcome, as_int, as_time, as_bytes, numbered, if_in_calendar, at_time}
use Rattle.gq_rules_meaning.specs.Calls.{function_of}
use Rattle.gq_value.specs.declared.value.Wrong.TheVariants as wrong
use Rattle.std.specs.Prelude.{if◌then◌else◌, ◌^◌, ◌≤◌}
use Rattle.gq_eval_operand.specs.declared.seen.Seen.{Seen}
use Rattle.gq_eval_operand.specs.declared.halt.Halt.{Halt}
use Rattle.gq_eval_operand.specs.declared.halt.Halt.TheVariants as halt
use Rattle.gq_eval_operand.specs.Meant.{meant, Halts, Tells, IsNoText}
use Rattle.gq_eval_builtins.specs.Clock.{ByClock, part_among}

-- ---- answers

pub stops : {A B : Type 0} (o : Answer Wrong A) (f : A → Answer Wrong B) (h : Halt) → Halts o h → Halts (o >>= f) h
stops o f (halt.Wrong w) p = ap (λ o. o >>= f) p
stops o f halt.Stuck p = ap (λ o. o >>= f) p
stops o f halt.OutOfMemory p = tt

pub always : (o : Outcome) (r : Result Seen Halt) → Tells meant o r → ByClock (λ clock. o) r
always o r t = record { each = λ clock is. t }

-- ---- the calendar

both : (a b : Bool) → (a && b) ≡ true → (a ≡ true) × (b ≡ true)
both true true h = (refl, refl)
both true false h = cc
both false b h = cc

pub is_datetime : (x : ℤ) → in_calendar x ≡ true → IsDatetime x
is_datetime x h = let p = both (int_le (negsuc 62167219199) x) (int_le x (pos 253402300799)) h in let a = p.0 in let b = p.1 in (grind (arith, ints), grind (arith, ints))

read_is : (clock : Calendar) (s : List ℕ) (o : Option ℤ) → IsCalendar clock → IfSome o (Reads s) → IfNone o ((x : ℤ) → ¬ (Reads s x)) → clock.read s ≡ o
read_is clock s (Some x) is some none = (is.reads s x).1 some
read_is clock s None is some none = go (clock.read s) refl
  where
    go : (o : Option ℤ) → clock.read s ≡ o → clock.read s ≡ None
    go (Some x) e = absurd (none x ((is.reads s x).0 e))
    go None e = e

add_is : (clock : Calendar) (u : Unit) (n x : ℤ) (o : Option ℤ) → IsCalendar clock → IsDatetime x → IfSome o (IsAdded u n x) → IfNone o ((y : ℤ) → ¬ (IsAdded u n x y)) → clock.add u n x ≡ o
add_is clock u n x (Some y) is at some none = (is.adds u n x y at).1 some
add_is clock u n x None is at some none = go (clock.add u n x) refl
  where
    go : (o : Option ℤ) → clock.add u n x ≡ o → clock.add u n x ≡ None
    go (Some y) e = absurd (none y ((is.adds u n x y at).0 e))
    go None e = e

part_in : (clock : Calendar) (p : PartOfTime) (x : ℤ) → clock.part p x ≡ part_among p (parts_of clock x)
part_in clock Year x = refl
part_in clock Month x = refl
part_in clock Day x = refl
part_in clock Hour x = refl
part_in clock Minute x = refl
part_in clock Second x = refl

-- ---- functions

pub no_text_read : (v : Val) → IsNoText v → ByClock (λ clock. function_of clock ToDatetime (v ∷ [])) (Err halt.Stuck)
no_text_read (Text s) h = absurd h
no_text_read (Int x) h = record { each = λ clock is. refl }
no_text_read (UInt x) h = record { each = λ clock is. refl }
no_text_read (Truth x) h = record { each = λ clock is. refl }
no_text_read (Vertex x) h = record { each = λ clock is. refl }
no_text_read (Tuple x) h = record { each = λ clock is. refl }
no_text_read (Fraction x n) h = record { each = λ clock is. refl }

pub text_read : (v : Val) (s : List ℕ) (o : Option ℤ) (r : Result Seen Halt) → v ≡ Text s → IfSome o (Reads s) → IfNone o ((x : ℤ) → ¬ (Reads s x)) → Tells meant (at_time o) r
    → ByClock (λ clock. function_of clock ToDatetime (v ∷ [])) r
text_read v s o r e some none t = record { each = λ clock is. subst (λ o. Tells meant o r) (sym (ap (λ v. function_of clock ToDatetime (v ∷ [])) e ∙ ap at_time (read_is clock s o is some none))) t }

pub ruleset read_laws = (no_text_read, text_read)

pub part_told : (v : Val) (p : PartOfTime) (x : ℤ) (ps : shown.DateTimeParts) (r : Result Seen Halt) → as_time v ≡ Gives x → IsDatetime x → ((other : shown.DateTimeParts) → HasParts x other → other ≡ ps)
    → Tells meant (numbered (Int (part_among p ps))) r → ByClock (λ clock. function_of clock (PartOf p) (v ∷ [])) r
part_told v p x ps r e at only t = record {
  each = λ clock is. subst (λ o. Tells meant o r)
      (sym (ap (λ o. o >>= λ x. numbered (Int (clock.part p x))) e ∙ ap (λ y. numbered (Int y)) (part_in clock p x ∙ ap (part_among p) (only (parts_of clock x) (is.shows x at))))) t;
}

pub part_stops : (v : Val) (p : PartOfTime) (h : Halt) → Halts (as_time v) h → ByClock (λ clock. function_of clock (PartOf p) (v ∷ [])) (Err h)
part_stops v p h s = record { each = λ clock is. stops (as_time v) _ h s }

pub ruleset part_laws = (part_told, part_stops)

pub epoch_told : (v : Val) (x : ℤ) (r : Result Seen Halt) → as_time v ≡ Gives x → Tells meant (numbered (Int x)) r → ByClock (λ clock. function_of clock DatetimeToEpoch (v ∷ [])) r
epoch_told v x r e t = record { each = λ clock is. subst (λ o. Tells meant (o >>= λ x. numbered (Int x)) r) (sym e) t }

pub epoch_stops : (v : Val) (h : Halt) → Halts (as_time v) h → ByClock (λ clock. function_of clock DatetimeToEpoch (v ∷ [])) (Err h)
epoch_stops v h s = record { each = λ clock is. stops (as_time v) _ h s }

pub ruleset epoch_laws = (epoch_stops)

pub diff_told : (v w : Val) (x y : ℤ) (r : Result Seen Halt) → as_time v ≡ Gives x → as_time w ≡ Gives y → Tells meant (numbered (Int (x -ℤ y))) r → ByClock (λ clock. function_of clock DatetimeDiff (v ∷ w ∷ [])) r
diff_told v w x y r e f t = record {
  each = λ clock is. subst (λ o. Tells meant (o >>= λ x. as_time w >>= λ y. numbered (Int (x -ℤ y))) r) (sym e) (subst (λ o. Tells meant (o >>= λ y. numbered (Int (x -ℤ y))) r) (sym f) t);
}

pub diff_first_stops : (v w : Val) (h : Halt) → Halts (as_time v) h → ByClock (λ clock. function_of clock DatetimeDiff (v ∷ w ∷ [])) (Err h)
diff_first_stops v w h s = record { each = λ clock is. stops (as_time v) _ h s }

pub diff_second_stops : (v w : Val) (x : ℤ) (h : Halt) → as_time v ≡ Gives x → Halts (as_time w) h → ByClock (λ clock. function_of clock DatetimeDiff (v ∷ w ∷ [])) (Err h)
diff_second_stops v w x h e s = record { each = λ clock is. subst (λ o. Halts (o >>= λ x. as_time w >>= λ y. numbered (Int (x -ℤ y))) h) (sym e) (stops (as_time w) _ h s) }

pub ruleset diff_laws = (diff_first_stops, diff_second_stops)

-- ---- adding

pub no_unit : (s : List ℕ) (n x : ℤ) → unit_named s ≡ None → ByClock (λ clock. found (unit_named s) >>= λ u. at_time (clock.add u n x)) (Err halt.Stuck)
no_unit s n x e = record { each = λ clock is. ap (λ o. found {F = Wrong} o >>= λ u. at_time (clock.add u n x)) e }

pub unit_added : (s : List ℕ) (u : Unit) (n x : ℤ) (o : Option ℤ) (r : Result Seen Halt) → unit_named s ≡ Some u → IsDatetime x → IfSome o (IsAdded u n x) → IfNone o ((y : ℤ) → ¬ (IsAdded u n x y))
    → Tells meant (at_time o) r → ByClock (λ clock. found (unit_named s) >>= λ u. at_time (clock.add u n x)) r
unit_added s u n x o r e at some none t = record {
  each = λ clock is. subst (λ o. Tells meant o r)
      (sym (ap (λ o. found {F = Wrong} o >>= λ u. at_time (clock.add u n x)) e ∙ ap at_time (add_is clock u n x o is at some none))) t;
}

pub add_first : (v w u : Val) (h : Halt) → Halts (as_time v) h → ByClock (λ clock. function_of clock DatetimeAdd (v ∷ w ∷ u ∷ [])) (Err h)
add_first v w u h s = record { each = λ clock is. stops (as_time v) _ h s }

pub add_second : (v w u : Val) (x : ℤ) (h : Halt) → as_time v ≡ Gives x → Halts (as_int w) h → ByClock (λ clock. function_of clock DatetimeAdd (v ∷ w ∷ u ∷ [])) (Err h)
add_second v w u x h e s = record { each = λ clock is. subst (λ o. Halts (o >>= λ x. as_int w >>= λ n. as_bytes u >>= λ s. found (unit_named s) >>= λ unit. at_time (clock.add unit n x)) h) (sym e) (stops (as_int w) _ h s) }

no_text_bytes : (v : Val) → IsNoText v → as_bytes v ≡ Stuck
no_text_bytes (Text s) h = absurd h
no_text_bytes _ h = refl

pub add_third : (v w u : Val) (x n : ℤ) → as_time v ≡ Gives x → as_int w ≡ Gives n → IsNoText u → ByClock (λ clock. function_of clock DatetimeAdd (v ∷ w ∷ u ∷ [])) (Err halt.Stuck)
add_third v w u x n e f h = record {
  each = λ clock is.
      ap (λ o. o >>= λ x. as_int w >>= λ n. as_bytes u >>= λ s. found (unit_named s) >>= λ unit. at_time (clock.add unit n x)) e
      ∙ ap (λ o. o >>= λ n. as_bytes u >>= λ s. found (unit_named s) >>= λ unit. at_time (clock.add unit n x)) f
      ∙ ap (λ o. o >>= λ s. found (unit_named s) >>= λ unit. at_time (clock.add unit n x)) (no_text_bytes u h);
}

pub add_told : (v w u : Val) (x n : ℤ) (s : List ℕ) (r : Result Seen Halt) → as_time v ≡ Gives x → as_int w ≡ Gives n → u ≡ Text s
    → ByClock (λ clock. found (unit_named s) >>= λ unit. at_time (clock.add unit n x)) r → ByClock (λ clock. function_of clock DatetimeAdd (v ∷ w ∷ u ∷ [])) r
add_told v w u x n s r e f g t = record {
  each = λ clock is. subst (λ o. Tells meant o r) (sym (
      ap (λ o. o >>= λ x. as_int w >>= λ n. as_bytes u >>= λ s. found (unit_named s) >>= λ unit. at_time (clock.add unit n x)) e
      ∙ ap (λ o. o >>= λ n. as_bytes u >>= λ s. found (unit_named s) >>= λ unit. at_time (clock.add unit n x)) f
      ∙ ap (λ u. as_bytes u >>= λ s. found (unit_named s) >>= λ unit. at_time (clock.add unit n x)) g)) (t.each clock is);
}

pub ruleset add_laws = (no_unit, unit_added, add_first, add_second, add_third, add_told)

-- ---- seconds

-- a whole number past the greatest INT
pub past_int : (n : ℕ) → 2 ^ 63 ≤ n → at_time (if_in_calendar (pos n)) ≡ Faults wrong.Range
past_int n h = go (in_calendar (pos n)) refl
  where
    go : (t : Bool) → in_calendar (pos n) ≡ t → at_time (if t then Some (pos n) else None) ≡ Faults wrong.Range
    go true e = let p = both (int_le (negsuc 62167219199) (pos n)) (int_le (pos n) (pos 253402300799)) e in let b = p.1 in absurd (grind (arith, ints))
    go false e = refl
