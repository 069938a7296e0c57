-- SoundSteps: the results of operators, functions and tests are values, so nothing is borrowed there.
use Rattle.std.specs.Prelude.{ℕ, zero, suc, ℤ, [], ◌∷◌, Option, Some, None, Result, Ok, Err, IfOk}
use Rattle.std.proofs.Common.{◌≡◌, sym, ap, subst}
use Rattle.gq_tree.specs.declared.expr.AddSign.TheVariants as plus
use Rattle.gq_tree.specs.declared.expr.AddSign.{AddSign}
use Rattle.gq_tree.specs.declared.expr.MulSign.TheVariants as times
use Rattle.gq_tree.specs.declared.expr.MulSign.{MulSign}
use Rattle.gq_value.specs.declared.value.Wrong.{Wrong}
use Rattle.gq_value.specs.Val.{Val, Int, UInt, Truth, Text, Vertex, Tuple, Fraction}
use Rattle.gq_value.specs.Accums.{Base, STRING}
use Rattle.gq_value.specs.Arithmetic.{multiplied, divided, remainder, added, subtracted, negated}
use Rattle.gq_rules_typing.specs.Words.{DatetimeAdd, unit_named}
use Rattle.gq_plan_ir.specs.Reference.{Reference}
use Rattle.gq_rules_meaning.specs.Answers.{Answer, Gives, Faults, Stuck, ◌>>=◌, found, of_result}
use Rattle.gq_rules_meaning.specs.Calendars.{IsCalendar}
use Rattle.gq_rules_meaning.specs.Calls.{function_of}
use Rattle.gq_rules_meaning.specs.Meanings.{Meant, Is, Outcome, numbered, as_int, as_number, as_time, as_bytes, at_time, converted_to}
use Rattle.gq_rules_meaning.specs.Expressions.{Look, value_of, wanted, calculated, product, summed, minus}
use Rattle.gq_eval_operand.specs.declared.seen.Seen.{Seen}
use Rattle.gq_eval_operand.specs.declared.seen.Seen.TheVariants as seen
use Rattle.gq_eval_operand.specs.declared.halt.Halt.{Halt}
use Rattle.gq_eval_operand.specs.declared.seen.Operand.{Operand}
use Rattle.gq_eval_operand.specs.Meant.{meant, valued, Halts, Tells}
use Rattle.gq_eval_operand.specs.Sound.{Sound}
use Rattle.gq_tree.specs.Tree.{Tree}
use Rattle.gq_eval_builtins.specs.Clock.{ByClock}
use Rattle.gq_eval_builtins.specs.Steps.{wanted_value}
use Rattle.gq_eval_builtins.proofs.TimeLemmas.{stops}

-- a value, of a type
abbrev pub IsValue : Meant → Type 0
IsValue (Is b v) = Unit {0}
IsValue _ = ⊥

abbrev pub OnlyValues : Outcome → Type 0
OnlyValues (Gives m) = IsValue m
OnlyValues _ = Unit {0}

value_sound : (b : Seen) → IsValue (meant b) → Sound b
value_sound (seen.Value s v) i = tt
value_sound (seen.Average f) i = tt
value_sound (seen.Whole k c) i = absurd i
value_sound (seen.Opening k) i = absurd i
value_sound (seen.Row s c row) i = absurd i
value_sound (seen.OpeningRow s) i = tt
value_sound (seen.Edge r t) i = tt
value_sound (seen.Set vs) i = tt
value_sound (seen.Member vs s v) i = tt

pub sound_of : (o : Outcome) (r : Result Seen Halt) → OnlyValues o → Tells meant o r → IfOk r Sound
sound_of o (Ok b) only p = value_sound b (subst OnlyValues p only)
sound_of o (Err h) only p = tt

then_values : {A : Type 0} (o : Answer Wrong A) (f : A → Outcome) → ((a : A) → OnlyValues (f a)) → OnlyValues (o >>= f)
then_values (Gives a) f h = h a
then_values (Faults w) f h = tt
then_values Stuck f h = tt

numbered_only : (v : Val) → OnlyValues (numbered v)
numbered_only (Int x) = tt
numbered_only (UInt n) = tt
numbered_only (Truth b) = tt
numbered_only (Text s) = tt
numbered_only (Vertex v) = tt
numbered_only (Tuple vs) = tt
numbered_only (Fraction x n) = tt

calculated_only : (op : Val → Val → Result Val Wrong) (v w : Val) → OnlyValues (calculated op v w)
calculated_only op v w = then_values (as_number v) _ (λ x. then_values (as_number w) _ (λ y. then_values (of_result (op v w)) numbered numbered_only))

product_only : (sign : MulSign) (v w : Val) → OnlyValues (product sign v w)
product_only times.Times v w = calculated_only multiplied v w
product_only times.Over v w = calculated_only divided v w
product_only times.Modulo v w = calculated_only remainder v w

pub product_sound : (sign : MulSign) (v w : Val) (r : Result Seen Halt) → Tells meant (product sign v w) r → IfOk r Sound
product_sound sign v w r p = sound_of (product sign v w) r (product_only sign v w) p

summed_only : (sign : AddSign) (v w : Val) → OnlyValues (summed sign v w)
summed_only plus.Minus v w = calculated_only subtracted v w
summed_only plus.Plus (Text s) (Text t) = then_values {A = Val} (of_result (added (Text s) (Text t))) (λ v. Gives (Is STRING v)) (λ v. tt)
summed_only plus.Plus (Text s) (Int x) = calculated_only added (Text s) (Int x)
summed_only plus.Plus (Text s) (UInt n) = calculated_only added (Text s) (UInt n)
summed_only plus.Plus (Text s) (Truth b) = calculated_only added (Text s) (Truth b)
summed_only plus.Plus (Text s) (Vertex v) = calculated_only added (Text s) (Vertex v)
summed_only plus.Plus (Text s) (Tuple vs) = calculated_only added (Text s) (Tuple vs)
summed_only plus.Plus (Text s) (Fraction x n) = calculated_only added (Text s) (Fraction x n)
summed_only plus.Plus (Int x) w = calculated_only added (Int x) w
summed_only plus.Plus (UInt n) w = calculated_only added (UInt n) w
summed_only plus.Plus (Truth b) w = calculated_only added (Truth b) w
summed_only plus.Plus (Vertex v) w = calculated_only added (Vertex v) w
summed_only plus.Plus (Tuple vs) w = calculated_only added (Tuple vs) w
summed_only plus.Plus (Fraction x n) w = calculated_only added (Fraction x n) w

pub summed_sound : (sign : AddSign) (v w : Val) (r : Result Seen Halt) → Tells meant (summed sign v w) r → IfOk r Sound
summed_sound sign v w r p = sound_of (summed sign v w) r (summed_only sign v w) p

minus_only : (n : ℕ) (v : Val) → OnlyValues (minus n v)
minus_only zero v = numbered_only v
minus_only (suc n) v = then_values (as_number v) _ (λ x. then_values (of_result (negated v)) (minus n) (λ w. minus_only n w))

pub minus_sound : (n : ℕ) (v : Val) (r : Result Seen Halt) → Tells meant (minus n v) r → IfOk r Sound
minus_sound n v r p = sound_of (minus n v) r (minus_only n v) p

at_time_only : (o : Option ℤ) → OnlyValues (at_time o)
at_time_only None = tt
at_time_only (Some x) = tt

pub later_sound : (look : Look Reference) (v w u : Val) (r : Result Seen Halt) → IsCalendar look.world.calendar → ByClock (λ clock. function_of clock DatetimeAdd (v ∷ w ∷ u ∷ [])) r → IfOk r Sound
later_sound look v w u r is p = sound_of (function_of look.world.calendar DatetimeAdd (v ∷ w ∷ u ∷ [])) r (then_values (as_time v) _ (λ x. then_values (as_int w) _ (λ n.
    then_values (as_bytes u) _ (λ s. then_values (found (unit_named s)) _ (λ unit. at_time_only (look.world.calendar.add unit n x)))))) (p.each look.world.calendar is)

pub ruleset sound_laws = (product_sound, summed_sound, minus_sound)

-- ---- arguments, converted if a type is wanted

pub wanted_stops : (look : Look Reference) (t : Tree Reference) (w : Option Base) (h : Halt) → Halts (value_of look t) h → Halts (wanted_value look w t) h
wanted_stops look t w h p = stops (value_of look t) (wanted w) h p

pub wanted_as_is : (look : Look Reference) (t : Tree Reference) (v : Val) → value_of look t ≡ Gives v → wanted_value look None t ≡ Gives v
wanted_as_is look t v e = ap (λ o. o >>= wanted None) e

pub wanted_as : (look : Look Reference) (t : Tree Reference) (v : Val) (b : Base) (r : Result Operand Halt) → value_of look t ≡ Gives v → Tells valued (converted_to b v) r → Tells valued (wanted_value look (Some b) t) r
wanted_as look t v b r e p = subst (λ o. Tells valued (o >>= wanted (Some b)) r) (sym e) p

pub ruleset wanted_laws = (wanted_stops, wanted_as_is, wanted_as)
