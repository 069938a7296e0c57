-- FunctionLemmas: functions of one argument.
use Rattle.std.proofs.Common.{◌≡◌, [], ◌∷◌, Result, Err, refl, sym, ap, subst}
use Rattle.gq_value.specs.declared.value.Value.{Value}
use Rattle.gq_value.specs.declared.value.EvalFault.{EvalFault}
use Rattle.gq_value.specs.Val.{Val, Int, UInt}
use Rattle.gq_value.specs.Answers as value_answers
use Rattle.gq_value.specs.Arithmetic.{absolute}
use Rattle.gq_rules_typing.specs.Words as words
use Rattle.gq_rules_meaning.specs.Answers.{Gives, ◌>>=◌, of_result}
use Rattle.gq_rules_meaning.specs.Meanings.{numbered}
use Rattle.gq_rules_meaning.specs.Calls.{function_of}
use Rattle.gq_eval_operand.specs.declared.seen.Seen.{Seen}
use Rattle.gq_eval_operand.specs.declared.halt.Halt.{Halt}
use Rattle.gq_eval_operand.specs.declared.halt.Halt.TheVariants as halt
use Rattle.gq_eval_operand.specs.Meant.{meant, number_in, Halts, Told, Tells}
use Rattle.gq_eval_operand.proofs.OperatorLemmas.{first_stops, told}
use Rattle.gq_eval_builtins.specs.Clock.{ByClock, magnitude_of, spelled}

pub magnitude_stops : (v : Val) (h : Halt) → Halts (number_in v) h → Halts (magnitude_of v) h
magnitude_stops v h p = first_stops v _ h p

is_magnitude : (v a : Val) → number_in v ≡ Gives a → magnitude_of v ≡ (of_result (absolute a) >>= numbered)
is_magnitude (Int x) a e = ap (λ v. of_result (absolute v) >>= numbered) (let f : Int x ≡ a = cc in f)
is_magnitude (UInt n) a e = ap (λ v. of_result (absolute v) >>= numbered) (let f : UInt n ≡ a = cc in f)
is_magnitude _ a e = absurd (cc)

pub magnitude_told : (v a : Val) (free : Type 0) (answer : Result Value EvalFault) (r : Result Seen Halt) → number_in v ≡ Gives a → value_answers.Gives free answer (absolute a) → Told meant numbered answer r → Tells meant (magnitude_of v) r
magnitude_told v a free answer r e given t = subst (λ o. Tells meant o r) (sym (is_magnitude v a e)) (told meant numbered free answer (absolute a) r given t)

pub ruleset magnitude_laws = (magnitude_stops, magnitude_told)

-- ---- whatever the calendar

pub one_abs : (v : Val) (r : Result Seen Halt) → Tells meant (magnitude_of v) r → ByClock (λ clock. function_of clock words.Abs (v ∷ [])) r
one_abs v r t = record { each = λ clock is. t }

pub one_text : (v : Val) (r : Result Seen Halt) → Tells meant (spelled v) r → ByClock (λ clock. function_of clock words.ToString (v ∷ [])) r
one_text v r t = record { each = λ clock is. t }

pub one_diff : (v : Val) → ByClock (λ clock. function_of clock words.DatetimeDiff (v ∷ [])) (Err halt.Stuck)
one_diff v = record { each = λ clock is. refl }

pub one_add : (v : Val) → ByClock (λ clock. function_of clock words.DatetimeAdd (v ∷ [])) (Err halt.Stuck)
one_add v = record { each = λ clock is. refl }

pub ruleset one_laws = (one_abs, one_text, one_diff, one_add)
