-- OperatorLemmas: the results of operations on numbers, operand by operand.
use Rattle.std.proofs.Common.{◌≡◌, ◌≢◌, List, ℕ, zero, suc, ◌+◌, ◌-◌, ◌<◌, ◌≤◌, Bool, true, false, not, if◌then◌else◌, ℤ, neg_ℤ, Result, Ok, Err, refl, sym, ap, subst, ◌∙◌, arith}
use Rattle.gq_plan_ir.specs.AddSign.TheVariants as sign
use Rattle.gq_plan_ir.specs.MulSign.{MulSign}
use Rattle.gq_plan_ir.specs.MulSign.TheVariants as times
use Rattle.gq_value.specs.declared.value.Value.{Value}
use Rattle.gq_value.specs.declared.value.Wrong.{Wrong}
use Rattle.gq_value.specs.declared.value.EvalFault.{EvalFault}
use Rattle.gq_value.specs.declared.value.EvalFault.TheVariants as eval_fault
use Rattle.gq_value.specs.Val.{Val, Int, UInt, Text}
use Rattle.gq_value.specs.Answers as value_answers
use Rattle.gq_value.specs.Accums.{INT, UINT}
use Rattle.gq_value.specs.Arithmetic.{added, negated}
use Rattle.gq_plan_ir.specs.Answers.{Answer, Gives, Faults, Stuck, ◌>>=◌, of_result}
use Rattle.gq_plan_ir.specs.Meanings.{Meant, Is, as_number, numbered}
use Rattle.gq_plan_ir.specs.Expressions.{calculated, product, summed, minus, nots}
use Rattle.gq_eval_operand.specs.declared.halt.Halt.{Halt}
use Rattle.gq_eval_operand.specs.declared.halt.Halt.TheVariants as halt
use Rattle.gq_eval_operand.specs.Meant.{number_in, is_unsigned, IsNoText, Halts, Told, Tells}
use Rattle.gq_value.specs.Arithmetic.{IsWhole, is_within, as_type, whole}
use Rattle.gq_value.specs.declared.kind.Number.TheVariants as number
use Rattle.gq_value.specs.declared.value.Wrong.TheVariants as wrong

ok_inj : {E A : Type 0} {a b : A} → ◌≡◌ {A = Result A E} (Ok a) (Ok b) → a ≡ b
ok_inj h = cc

-- ---- numbers

pub numbered_uint : (v : Val) → is_unsigned v ≡ true → numbered v ≡ Gives (Is UINT v)
numbered_uint (UInt n) h = refl
numbered_uint _ h = cc

pub numbered_int : (v : Val) → is_unsigned v ≡ false → numbered v ≡ Gives (Is INT v)
numbered_int (UInt n) h = cc
numbered_int _ h = refl

pub ruleset numbered_laws = (numbered_uint, numbered_int)

never_faults : (v : Val) (w : Wrong) → number_in v ≡ Faults w → ⊥
never_faults (Int x) w h = cc
never_faults (UInt n) w h = cc
never_faults _ w h = cc

no_number : (v : Val) → number_in v ≡ Stuck → as_number v ≡ Stuck
no_number (Int x) h = cc
no_number (UInt n) h = cc
no_number _ h = refl

-- a number is itself, and has its whole number
pub same_number : (v a : Val) → number_in v ≡ Gives a → v ≡ a
same_number (Int x) a h = cc
same_number (UInt n) a h = cc
same_number _ a h = absurd (cc)

has_number : {A : Type 0} (v a : Val) (f : ℤ → Answer Wrong A) (g : Answer Wrong A) → number_in v ≡ Gives a → ((x : ℤ) → f x ≡ g) → (as_number v >>= f) ≡ g
has_number (Int x) a f g h same = same x
has_number (UInt n) a f g h same = same _
has_number _ a f g h same = absurd (cc)

-- ---- operations

pub first_stops : {A : Type 0} (v : Val) (f : ℤ → Answer Wrong A) (h : Halt) → Halts (number_in v) h → Halts (as_number v >>= f) h
first_stops v f (halt.Wrong w) p = absurd (never_faults v w p)
first_stops v f halt.Stuck p = ap (λ o. o >>= f) (no_number v p)
first_stops v f halt.OutOfMemory p = tt

second_is : {A : Type 0} (v a w : Val) (f : ℤ → Answer Wrong A) → number_in v ≡ Gives a → (as_number v >>= λ x. as_number w >>= f) ≡ (as_number w >>= f)
second_is v a w f h = has_number v a _ _ h (λ x. refl)

pub second_stops : {A : Type 0} (v a w : Val) (f : ℤ → Answer Wrong A) (h : Halt) → number_in v ≡ Gives a → Halts (number_in w) h → Halts (as_number v >>= λ x. as_number w >>= f) h
second_stops v a w f h is p = subst (λ o. Halts o h) (sym (second_is v a w f is)) (first_stops w f h p)

calculated_is : (op : Val → Val → Result Val Wrong) (v a w b : Val) → number_in v ≡ Gives a → number_in w ≡ Gives b → calculated op v w ≡ (of_result (op a b) >>= numbered)
calculated_is op v a w b is at =
    second_is v a w (λ y. of_result (op v w) >>= numbered) is ∙ has_number w b _ _ at (λ y. refl)
    ∙ ap (λ x. of_result (op x w) >>= numbered) (same_number v a is) ∙ ap (λ y. of_result (op a y) >>= numbered) (same_number w b at)

-- an operation's answer is the one that is meant
pub told : {A B : Type 0} (view : B → A) (next : Val → Answer Wrong A) (free : Type 0) (answer : Result Value EvalFault) (o : Result Val Wrong) (r : Result B Halt)
    → value_answers.Gives free answer o → Told view next answer r → Tells view (of_result o >>= next) r
told view next free (Ok v) o r is t = subst (λ o. Tells view (of_result o >>= next) r) (sym is) t
told view next free (Err (eval_fault.Wrong w)) o r is t = subst (λ o. Tells view (of_result o >>= next) r) (sym is) (subst (λ r. Tells view (Faults w) r) (sym t) refl)
told view next free (Err eval_fault.OutOfMemory) o r is t = subst (λ r. Tells view (of_result o >>= next) r) (sym t) tt

pub operated : {B : Type 0} (view : B → Meant) (op : Val → Val → Result Val Wrong) (free : Type 0) (v a w b : Val) (answer : Result Value EvalFault) (r : Result B Halt)
    → number_in v ≡ Gives a → number_in w ≡ Gives b → value_answers.Gives free answer (op a b) → Told view numbered answer r → Tells view (calculated op v w) r
operated view op free v a w b answer r is at given t = subst (λ o. Tells view o r) (sym (calculated_is op v a w b is at)) (told view numbered free answer (op a b) r given t)

pub product_first : (s : MulSign) (v w : Val) (h : Halt) → Halts (number_in v) h → Halts (product s v w) h
product_first times.Times v w h p = first_stops v _ h p
product_first times.Over v w h p = first_stops v _ h p
product_first times.Modulo v w h p = first_stops v _ h p

pub product_second : (s : MulSign) (v a w : Val) (h : Halt) → number_in v ≡ Gives a → Halts (number_in w) h → Halts (product s v w) h
product_second times.Times v a w h is p = second_stops v a w _ h is p
product_second times.Over v a w h is p = second_stops v a w _ h is p
product_second times.Modulo v a w h is p = second_stops v a w _ h is p

pub ruleset calculated_laws = (first_stops, second_stops, operated, product_first, product_second)

-- ---- sums

pub no_text_sum : (v w : Val) → IsNoText v → summed sign.Plus v w ≡ calculated added v w
no_text_sum (Text s) w h = absurd h
no_text_sum _ w h = refl

pub text_sum : (s : List ℕ) (w : Val) → IsNoText w → summed sign.Plus (Text s) w ≡ Stuck
text_sum s (Text t) h = absurd h
text_sum s _ h = refl

pub ruleset summed_laws = (no_text_sum, text_sum)

-- ---- signs before an operand

less_by_one : (n i : ℕ) → i < n → n - i ≡ suc (n - (i + 1))
less_by_one n i h = omega (arith, h)

pub nots_turn : (n i : ℕ) (b r : Bool) → i < n → nots (n - i) b ≡ r → nots (n - (i + 1)) (not b) ≡ r
nots_turn n i b r h was = ap (λ k. nots k b) (sym (less_by_one n i h)) ∙ was

over : (n i : ℕ) → n ≤ i → n - i ≡ 0
over n i h = omega (arith, h)

pub nots_end : (n i : ℕ) (b r : Bool) → n ≤ i → nots (n - i) b ≡ r → b ≡ r
nots_end n i b r h was = ap (λ k. nots k b) (sym (over n i h)) ∙ was

pub ruleset nots_laws = (nots_turn, nots_end)

whole_step : (n : ℕ) (v : Val) → IsWhole v → minus (suc n) v ≡ (of_result (negated v) >>= minus n)
whole_step n (Int x) h = refl
whole_step n (UInt x) h = refl
whole_step n _ h = absurd h

pub minus_turn : (n i : ℕ) (v u : Val) (r : Answer Wrong Meant) → i < n → IsWhole v → negated v ≡ Ok u → minus (n - i) v ≡ r → minus (n - (i + 1)) u ≡ r
minus_turn n i v u r h whole is was =
    ap (λ o. of_result o >>= minus (n - (i + 1))) (sym is) ∙ sym (whole_step (n - (i + 1)) v whole) ∙ ap (λ k. minus k v) (sym (less_by_one n i h)) ∙ was

pub minus_stops : (n i : ℕ) (v : Val) (w : Wrong) (r : Answer Wrong Meant) → i < n → IsWhole v → negated v ≡ Err w → minus (n - i) v ≡ r → r ≡ Faults w
minus_stops n i v w r h whole is was =
    sym was ∙ ap (λ k. minus k v) (less_by_one n i h) ∙ whole_step (n - (i + 1)) v whole ∙ ap (λ o. of_result o >>= minus (n - (i + 1))) is

pub minus_end : (n i : ℕ) (v : Val) (r : Answer Wrong Meant) → n ≤ i → minus (n - i) v ≡ r → r ≡ numbered v
minus_end n i v r h was = sym was ∙ ap (λ k. minus k v) (over n i h)

pub negative_whole : (v u : Val) → negated v ≡ Ok u → IsWhole u
negative_whole v u is = go (is_within number.Int (neg_ℤ (whole v))) is
  where
    go : (t : Bool) → (if t then Ok (as_type number.Int (neg_ℤ (whole v))) else Err wrong.Range) ≡ Ok u → IsWhole u
    go true is = subst IsWhole (ok_inj is) tt
    go false is = absurd (cc)

pub minus_first : (n : ℕ) (v : Val) (h : Halt) → n ≢ 0 → Halts (number_in v) h → Halts (minus n v) h
minus_first zero v h some p = absurd (some refl)
minus_first (suc n) v h some p = first_stops v _ h p

pub ruleset minus_laws = (minus_first, same_number, minus_turn, minus_stops, minus_end, negative_whole)
