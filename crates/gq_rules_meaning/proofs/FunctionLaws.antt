-- FunctionLaws: the results of functions for arguments of their types.
use Rattle.std.proofs.Common.{◌≡◌, ℕ, Bool, true, false, List, [], ◌∷◌, map, Option, Some, None, Ok, refl, sym, subst}
use Rattle.std.specs.Prelude.{if◌then◌else◌, ℤ, pos, ◌-ℤ◌, unsigned_abs}
use Rattle.gq_rules_typing.specs.Tree.{Trees}
use Rattle.gq_value.specs.declared.kind.Number.TheVariants as number
use Rattle.gq_value.specs.Val.{Val, Int, UInt, Truth, Tuple, vals_of}
use Rattle.gq_value.specs.Val as val
use Rattle.gq_value.specs.Arithmetic.{absolute, whole}
use Rattle.gq_value.specs.Accums.{Base, INT, UINT, BOOL, STRING, DATETIME, TUPLE}
use Rattle.gq_value.specs.AccumViews.{bases}
use Rattle.gq_value.specs.Typed.{in_calendar}
use Rattle.gq_rules_typing.specs.Words.{Function, Makes, Abs, ToString, ToDatetime, EpochToDatetime, DatetimeToEpoch, DatetimeDiff, DatetimeAdd, PartOf, unit_named, function_named}
use Rattle.gq_rules_typing.specs.Judging.{Typed, Of, Mismatch}
use Rattle.gq_rules_typing.specs.Types.{same_bases, is_number, convert_all}
use Rattle.gq_rules_typing.specs.CallTypes.{has_text, function_type}
use Rattle.gq_rules_meaning.specs.Answers.{Answer, Gives, Faults, Stuck, found, of_result}
use Rattle.gq_rules_meaning.specs.Answers as answers
use Rattle.gq_rules_meaning.specs.Meanings.{Is, as_number, as_int, as_time, as_bytes, numbered, said, if_in_calendar, at_time}
use Rattle.gq_rules_meaning.specs.Calls.{function_wants, function_of, text_of}
use Rattle.gq_rules_meaning.specs.Expressions.{World, setting}
use Rattle.gq_rules_meaning.specs.Fitting.{Safe, are_values, WorldFits, Suits}
use Rattle.gq_rules_meaning.proofs.AnswerLaws.{safe_then, safe_found, checked, ok_inj, both_ok}
use Rattle.gq_rules_meaning.proofs.ValueLaws.{IsValue, number_safe, int_given, time_safe, bytes_safe, in_type_safe, numbered_safe}
use Rattle.gq_rules_meaning.proofs.CallLaws.{AreArguments, is_adding, tuple_made, tuple_values, same_bases_refl}

module _ {N : Type 0} (world : World N) where
  -- seconds in the calendar, or Range
  at_time_safe : (o : Option ℤ) → ((x : ℤ) → o ≡ Some x → in_calendar x ≡ true) → Safe (Suits world (Of DATETIME)) (at_time o)
  at_time_safe None h = tt
  at_time_safe (Some x) h = (refl, h x refl)

  in_calendar_safe : (x : ℤ) → Safe (Suits world (Of DATETIME)) (at_time (if_in_calendar x))
  in_calendar_safe x = go (in_calendar x) refl
    where
      go : (t : Bool) → in_calendar x ≡ t → Safe (Suits world (Of DATETIME)) (at_time (if t then Some x else None))
      go true e = (refl, e)
      go false e = tt

  -- the magnitude keeps its type
  absolute_safe : (b : Base) (v : Val) → is_number b ≡ true → IsValue world b v → Safe (Suits world (Of b)) (answers.◌>>=◌ (of_result (absolute v)) numbered)
  absolute_safe INT (Int x) n h = numbered_safe world number.Int (absolute (Int x)) (in_type_safe world number.Int (pos (unsigned_abs (whole (Int x)))))
  absolute_safe UINT (UInt x) n h = numbered_safe world number.UInt (absolute (UInt x)) (in_type_safe world number.UInt (pos (unsigned_abs (whole (UInt x)))))
  absolute_safe INT v n h = cc
  absolute_safe UINT v n h = cc
  absolute_safe b v n h = cc

  text_safe : (b : Base) (v : Val) → has_text b ≡ true → IsValue world b v → Safe (Suits world (Of STRING)) (answers.◌>>=◌ (text_of v) said)
  text_safe STRING (val.Text s) n h = (refl, refl)
  text_safe BOOL (Truth true) n h = (refl, refl)
  text_safe BOOL (Truth false) n h = (refl, refl)
  text_safe INT (Int x) n h = (refl, refl)
  text_safe UINT (UInt x) n h = (refl, refl)
  text_safe b v n h = cc

  int_safe : (x : ℤ) → Safe (Suits world (Of INT)) (numbered (Int x))
  int_safe x = (refl, refl)

  made_safe : WorldFits world → (f : N) (n : ℕ) (fields bs : List Base) (vs : List Val) → function_named (setting world) f ≡ Some (Makes n fields) → convert_all bs fields ≡ true → AreArguments world (map Some fields) bs vs
      → Suits world (Of (TUPLE n (bases fields))) (Is (TUPLE n (bases fields)) (Tuple (vals_of vs)))
  made_safe fits f n fields bs vs e c a = (
    refl,
    both_ok (are_values world (bases fields) (vals_of vs)) _ (tuple_values world fields bs vs c a)
        (subst (λ fs. same_bases (bases fields) (bases fs) ≡ true) (tuple_made world fits f n fields e) (same_bases_refl world (bases fields))),
  )

  -- one argument, and two
  gives_one : (g : Function) (ty : Typed) (b : Base) (vs : List Val) → AreArguments world (None ∷ []) (b ∷ []) vs → ((v : Val) → IsValue world b v → Safe (Suits world ty) (function_of world.calendar g (v ∷ []))) → Safe (Suits world ty) (function_of world.calendar g vs)
  gives_one g ty b (v ∷ []) a h = h v a.0
  gives_one g ty b [] a h = absurd a
  gives_one g ty b (v ∷ w ∷ vs) a h = absurd a.1

  gives_two : (g : Function) (ty : Typed) (b c : Base) (vs : List Val) → AreArguments world (None ∷ None ∷ []) (b ∷ c ∷ []) vs → ((v w : Val) → IsValue world b v → IsValue world c w → Safe (Suits world ty) (function_of world.calendar g (v ∷ w ∷ []))) → Safe (Suits world ty) (function_of world.calendar g vs)
  gives_two g ty b c (v ∷ w ∷ []) a h = h v w a.0 a.1.0
  gives_two g ty b c [] a h = absurd a
  gives_two g ty b c (v ∷ []) a h = absurd a.1
  gives_two g ty b c (v ∷ w ∷ u ∷ vs) a h = absurd a.1.1

  pub function_gives : WorldFits world → (f : N) (g : Function) (ts : Trees N) (bs : List Base) (vs : List Val) (ty : Typed) → function_named (setting world) f ≡ Some g → is_adding world g ≡ false → function_type g ts bs ≡ Ok ty → AreArguments world (function_wants g) bs vs
      → Safe (Suits world ty) (function_of world.calendar g vs)
  function_gives fits f (Makes n fields) ts bs vs ty k n' e a =
      let u = checked Mismatch (convert_all bs fields) _ ty e in subst (λ ty. Safe (Suits world ty) (function_of world.calendar (Makes n fields) vs)) (ok_inj u.1) (made_safe fits f n fields bs vs k u.0 a)
  function_gives fits f Abs ts (b ∷ []) vs ty k n e a =
      let u = checked Mismatch (is_number b) _ ty e in
      gives_one Abs ty b vs a (λ v h. subst (λ ty. Safe (Suits world ty) (function_of world.calendar Abs (v ∷ []))) (ok_inj u.1) (safe_then _ _ (as_number v) _ (number_safe world b v u.0 h) (λ x z. absolute_safe b v u.0 h)))
  function_gives fits f ToString ts (b ∷ []) vs ty k n e a =
      let u = checked Mismatch (has_text b) _ ty e in
      gives_one ToString ty b vs a (λ v h. subst (λ ty. Safe (Suits world ty) (function_of world.calendar ToString (v ∷ []))) (ok_inj u.1) (text_safe b v u.0 h))
  function_gives fits f ToDatetime ts (STRING ∷ []) vs ty k n e a =
      gives_one ToDatetime ty STRING vs a (λ v h. subst (λ ty. Safe (Suits world ty) (function_of world.calendar ToDatetime (v ∷ []))) (ok_inj e)
      (safe_then _ _ (as_bytes v) _ (bytes_safe world v h) (λ s z. at_time_safe (world.calendar.read s) (fits.times.reads s))))
  function_gives fits f EpochToDatetime ts (b ∷ []) vs ty k n e a =
      let u = checked Mismatch (is_number b) _ ty e in
      gives_one EpochToDatetime ty b vs a (λ v h. subst (λ ty. Safe (Suits world ty) (function_of world.calendar EpochToDatetime (v ∷ []))) (ok_inj u.1)
      (safe_then _ _ (as_number v) _ (number_safe world b v u.0 h) (λ x z. in_calendar_safe x)))
  function_gives fits f DatetimeToEpoch ts (DATETIME ∷ []) vs ty k n e a =
      gives_one DatetimeToEpoch ty DATETIME vs a (λ v h. subst (λ ty. Safe (Suits world ty) (function_of world.calendar DatetimeToEpoch (v ∷ []))) (ok_inj e) (safe_then _ _ (as_time v) _ (time_safe world v h) (λ x z. int_safe x)))
  function_gives fits f DatetimeDiff ts (DATETIME ∷ DATETIME ∷ []) vs ty k n e a =
      gives_two DatetimeDiff ty DATETIME DATETIME vs a (λ v w h g. subst (λ ty. Safe (Suits world ty) (function_of world.calendar DatetimeDiff (v ∷ w ∷ []))) (ok_inj e)
      (safe_then _ _ (as_time v) _ (time_safe world v h) (λ x z. safe_then _ _ (as_time w) _ (time_safe world w g) (λ y z. int_safe (x -ℤ y)))))
  function_gives fits f (PartOf part) ts (DATETIME ∷ []) vs ty k n e a =
      gives_one (PartOf part) ty DATETIME vs a (λ v h. subst (λ ty. Safe (Suits world ty) (function_of world.calendar (PartOf part) (v ∷ []))) (ok_inj e)
      (safe_then _ _ (as_time v) _ (time_safe world v h) (λ x z. int_safe (world.calendar.part part x))))
  function_gives fits f DatetimeAdd ts bs vs ty k n e a = cc
  function_gives fits f g ts bs vs ty k n e a = cc

  -- adding to a time, whose unit is known by its text
  pub adding_gives : WorldFits world → (v w : Val) (text : List ℕ) (ty : Typed) → (unit : _) → unit_named text ≡ Some unit → ty ≡ Of DATETIME → IsValue world DATETIME v → IsValue world INT w
      → Safe (Suits world ty) (function_of world.calendar DatetimeAdd (v ∷ w ∷ val.Text text ∷ []))
  adding_gives fits v w text ty unit u e h g =
      subst (λ ty. Safe (Suits world ty) (function_of world.calendar DatetimeAdd (v ∷ w ∷ val.Text text ∷ []))) (sym e)
      (safe_then _ _ (as_time v) _ (time_safe world v h) (λ x z. safe_then _ _ (as_int w) _ (int_given world w g) (λ n z'. safe_found _ (unit_named text) unit _ u (at_time_safe (world.calendar.add unit n x) (λ y e. fits.times.adds unit n x y z e)))))
