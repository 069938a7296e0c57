-- RangeLemmas: the numbers between two ends.
use Rattle.std.proofs.Common.{◌≡◌, ℕ, ℤ, pos, Bool, true, false, cond, List, Result, Ok, Err, refl, sym, ap, ap₂, subst, ◌∙◌}
use Rattle.std.specs.Prelude.{◌&&◌, if◌then◌else◌}
use Rattle.gq_value.specs.declared.kind.Number.{Number}
use Rattle.gq_value.specs.declared.kind.Number.TheVariants as number
use Rattle.gq_value.specs.declared.value.Wrong.{Wrong}
use Rattle.gq_value.specs.declared.value.Wrong.TheVariants as wrong
use Rattle.gq_value.specs.Arithmetic.{as_type, in_type, is_within, type_of_both}
use Rattle.gq_value.specs.Typed.{number_type}
use Rattle.gq_value.specs.Val.{Val, Vals, Int, UInt, Truth, Text, Vertex, Tuple, Fraction}
use Rattle.gq_rules_meaning.specs.Answers.{Answer, Gives, Faults, Stuck, ◌>>=◌, of_result}
use Rattle.gq_rules_meaning.specs.Meanings.{as_number}
use Rattle.gq_rules_meaning.specs.Statements.{between, end_of, numbers_between, with_base}
use Rattle.gq_eval_operand.specs.declared.halt.Halt.{Halt}
use Rattle.gq_eval_operand.specs.declared.halt.Halt.TheVariants as halt
use Rattle.gq_eval_operand.specs.Meant.{Halts, Tells, is_unsigned, number_in, number_to}
use Rattle.gq_exec_control.specs.declared.running.Rounds.{Rounds}
use Rattle.gq_exec_control.specs.declared.running.Rounds.TheVariants as rounds
use Rattle.gq_exec_control.proofs.Steps.{halts_bind, halts_same, joined, tells_same}
use Rattle.gq_exec_control.specs.Rounds.{between_as, both_ends}
use Rattle.gq_exec_control.specs.Values.{rounds_in}
use Rattle.gq_eval_context.proofs.LimitLemmas.{int_is, uint_is}

-- ---- both ends are evaluated

pub first_stops : (o p : Answer Wrong Val) (h : Halt) → Halts o h → Halts (both_ends o p) h
first_stops o p h e = halts_bind o (λ v. p >>= between v) h e

pub last_stops : (o p : Answer Wrong Val) (v : Val) (h : Halt) → o ≡ Gives v → Halts p h → Halts (both_ends o p) h
last_stops o p v h is e = halts_same (both_ends o p) (p >>= between v) h (ap (λ x. both_ends x p) is) (halts_bind p (between v) h e)

pub ends_go : (o p : Answer Wrong Val) (v w : Val) (r : Result Rounds Halt) → o ≡ Gives v → p ≡ Gives w → Tells rounds_in (between v w) r → Tells rounds_in (both_ends o p) r
ends_go o p v w r e f t = tells_same rounds_in (both_ends o p) (between v w) r (ap₂ both_ends e f) t

pub ruleset range_laws = (first_stops, last_stops, ends_go)

-- ---- their type

type_there : (v w : Val) → type_of_both v w ≡ cond (is_unsigned v && is_unsigned w) number.UInt number.Int
type_there (UInt m) (UInt n) = refl
type_there (UInt m) (Int x) = refl
type_there (UInt m) (Truth b) = refl
type_there (UInt m) (Text s) = refl
type_there (UInt m) (Vertex n) = refl
type_there (UInt m) (Tuple vs) = refl
type_there (UInt m) (Fraction s n) = refl
type_there (Int x) w = refl
type_there (Truth b) w = refl
type_there (Text s) w = refl
type_there (Vertex n) w = refl
type_there (Tuple vs) w = refl
type_there (Fraction s n) w = refl

between_is : (v w : Val) (b : Bool) → (is_unsigned v && is_unsigned w) ≡ b → between v w ≡ between_as (cond b number.UInt number.Int) v w
between_is v w b e = ap (λ n. between_as n v w) (type_there v w ∙ ap (λ c. cond c number.UInt number.Int) e)

pub both_unsigned : (v w : Val) (c d : Bool) (r : Result Rounds Halt) → c ≡ is_unsigned v → d ≡ is_unsigned w → c ≡ true → d ≡ true → Tells rounds_in (between_as number.UInt v w) r → Tells rounds_in (between v w) r
both_unsigned v w c d r e f h k t = tells_same rounds_in (between v w) (between_as number.UInt v w) r (between_is v w true (ap₂ ◌&&◌ (sym e ∙ h) (sym f ∙ k))) t

pub first_signed : (v w : Val) (c : Bool) (r : Result Rounds Halt) → c ≡ is_unsigned v → c ≡ false → Tells rounds_in (between_as number.Int v w) r → Tells rounds_in (between v w) r
first_signed v w c r e h t = tells_same rounds_in (between v w) (between_as number.Int v w) r (between_is v w false (ap (λ x. x && is_unsigned w) (sym e ∙ h))) t

pub last_signed : (v w : Val) (c d : Bool) (r : Result Rounds Halt) → c ≡ is_unsigned v → d ≡ is_unsigned w → c ≡ true → d ≡ false → Tells rounds_in (between_as number.Int v w) r → Tells rounds_in (between v w) r
last_signed v w c d r e f h k t = tells_same rounds_in (between v w) (between_as number.Int v w) r (between_is v w false (ap₂ ◌&&◌ (sym e ∙ h) (sym f ∙ k))) t

pub ruleset both_laws = (both_unsigned, first_signed, last_signed)

-- ---- the numbers

module _ (n : Number) (v w : Val) where
  pub from_stops : (h : Halt) → Halts (end_of n v) h → Halts (between_as n v w) h
  from_stops h e = halts_bind (end_of n v) (λ x. end_of n w >>= λ y. Gives (with_base (number_type n) (numbers_between n x y))) h e

  pub to_stops : (x : ℤ) (h : Halt) → end_of n v ≡ Gives x → Halts (end_of n w) h → Halts (between_as n v w) h
  to_stops x h is e =
      halts_same (between_as n v w) (end_of n w >>= λ y. Gives (with_base (number_type n) (numbers_between n x y))) h (ap (λ o. o >>= λ x. end_of n w >>= λ y. Gives (with_base (number_type n) (numbers_between n x y))) is)
      (halts_bind (end_of n w) (λ y. Gives (with_base (number_type n) (numbers_between n x y))) h e)

  numbers_are : (x y : ℤ) → end_of n v ≡ Gives x → end_of n w ≡ Gives y → between_as n v w ≡ Gives (with_base (number_type n) (numbers_between n x y))
  numbers_are x y e f = ap₂ (λ (o p : Answer Wrong ℤ). o >>= λ x. p >>= λ y. Gives (with_base (number_type n) (numbers_between n x y))) e f

pub ints_go : (v w : Val) (x y : ℤ) → end_of number.Int v ≡ Gives x → end_of number.Int w ≡ Gives y → between_as number.Int v w ≡ Gives (rounds_in (rounds.Ints x y))
ints_go v w x y f g = numbers_are number.Int v w x y f g

pub uints_go : (v w : Val) (x y : ℕ) → end_of number.UInt v ≡ Gives (pos x) → end_of number.UInt w ≡ Gives (pos y) → between_as number.UInt v w ≡ Gives (rounds_in (rounds.UInts x y))
uints_go v w x y f g = numbers_are number.UInt v w (pos x) (pos y) f g

pub ruleset int_laws = (from_stops, to_stops, ints_go)

pub ruleset uint_laws = (from_stops, to_stops, uints_go)

-- ---- an end

end_is : (n : Number) (v : Val) → end_of n v ≡ (number_to n v >>= as_number)
end_is n v = sym (joined (as_number v) (λ x. of_result (in_type n x)) as_number)

pub end_stops : (n : Number) (v : Val) (h : Halt) → Halts (number_to n v) h → Halts (end_of n v) h
end_stops n v h e = halts_same (end_of n v) (number_to n v >>= as_number) h (end_is n v) (halts_bind (number_to n v) as_number h e)

pub int_end_goes : (v u : Val) (x : ℤ) → number_to number.Int v ≡ Gives u → number_in u ≡ Gives (Int x) → end_of number.Int v ≡ Gives x
int_end_goes v u x e f = end_is number.Int v ∙ ap (λ o. o >>= as_number) e ∙ int_is u x f

pub uint_end_goes : (v u : Val) (n : ℕ) → number_to number.UInt v ≡ Gives u → number_in u ≡ Gives (UInt n) → end_of number.UInt v ≡ Gives (pos n)
uint_end_goes v u n e f = end_is number.UInt v ∙ ap (λ o. o >>= as_number) e ∙ uint_is u n f

-- a number that is none
none_whole : (u : Val) (h : Halt) → Halts (number_in u) h → Halts (as_number u) h
none_whole (Int x) (halt.Wrong w) e = absurd (let no : ⊥ = cc in no)
none_whole (UInt n) (halt.Wrong w) e = absurd (let no : ⊥ = cc in no)
none_whole (Truth b) (halt.Wrong w) e = absurd (let no : ⊥ = cc in no)
none_whole (Text s) (halt.Wrong w) e = absurd (let no : ⊥ = cc in no)
none_whole (Vertex n) (halt.Wrong w) e = absurd (let no : ⊥ = cc in no)
none_whole (Tuple vs) (halt.Wrong w) e = absurd (let no : ⊥ = cc in no)
none_whole (Fraction s n) (halt.Wrong w) e = absurd (let no : ⊥ = cc in no)
none_whole (Int x) halt.Stuck e = absurd (let no : ⊥ = cc in no)
none_whole (UInt n) halt.Stuck e = absurd (let no : ⊥ = cc in no)
none_whole (Truth b) halt.Stuck e = refl
none_whole (Text s) halt.Stuck e = refl
none_whole (Vertex n) halt.Stuck e = refl
none_whole (Tuple vs) halt.Stuck e = refl
none_whole (Fraction s n) halt.Stuck e = refl
none_whole u halt.OutOfMemory e = tt

pub end_none : (n : Number) (v u : Val) (h : Halt) → number_to n v ≡ Gives u → Halts (number_in u) h → Halts (end_of n v) h
end_none n v u h e g = halts_same (end_of n v) (as_number u) h (end_is n v ∙ ap (λ o. o >>= as_number) e) (none_whole u h g)

-- what is converted to a type is of it
abbrev IsIn : Number → Val → Type 0
IsIn number.Int (Int x) = Unit {0}
IsIn number.UInt (UInt n) = Unit {0}
IsIn n v = ⊥

converted_in : (n : Number) (v u : Val) → number_to n v ≡ Gives u → IsIn n u
converted_in n v u e = by (as_number v) e
  where
    typed : (n : Number) (x : ℤ) → IsIn n (as_type n x)
    typed number.Int x = tt
    typed number.UInt x = tt

    within : (x : ℤ) (b : Bool) → of_result (if b then Ok (as_type n x) else Err wrong.Range) ≡ Gives u → IsIn n u
    within x true e = subst (IsIn n) (let f : as_type n x ≡ u = cc in f) (typed n x)
    within x false e = absurd (let no : ⊥ = cc in no)

    by : (o : Answer Wrong ℤ) → (o >>= λ x. of_result (in_type n x)) ≡ Gives u → IsIn n u
    by (Gives x) e = within x (is_within n x) e
    by (Faults w) e = absurd (let no : ⊥ = cc in no)
    by Stuck e = absurd (let no : ⊥ = cc in no)

is_itself : (u w : Val) → number_in u ≡ Gives w → u ≡ w
is_itself (Int x) w e = let f : Int x ≡ w = cc in f
is_itself (UInt n) w e = let f : UInt n ≡ w = cc in f
is_itself (Truth b) w e = absurd (let no : ⊥ = cc in no)
is_itself (Text s) w e = absurd (let no : ⊥ = cc in no)
is_itself (Vertex n) w e = absurd (let no : ⊥ = cc in no)
is_itself (Tuple vs) w e = absurd (let no : ⊥ = cc in no)
is_itself (Fraction s n) w e = absurd (let no : ⊥ = cc in no)

read_in : (n : Number) (v u w : Val) → number_to n v ≡ Gives u → number_in u ≡ Gives w → IsIn n w
read_in n v u w e f = subst (IsIn n) (is_itself u w f) (converted_in n v u e)

pub int_not_uint : (v u : Val) (k : ℕ) → number_to number.Int v ≡ Gives u → number_in u ≡ Gives (UInt k) → ⊥
int_not_uint v u k e f = read_in number.Int v u (UInt k) e f

pub uint_not_int : (v u : Val) (x : ℤ) → number_to number.UInt v ≡ Gives u → number_in u ≡ Gives (Int x) → ⊥
uint_not_int v u x e f = read_in number.UInt v u (Int x) e f

-- what is read as a whole number is one
abbrev IsNumber : Val → Type 0
IsNumber (Int x) = Unit {0}
IsNumber (UInt n) = Unit {0}
IsNumber v = ⊥

read_whole : (u w : Val) → number_in u ≡ Gives w → IsNumber w
read_whole (Int x) w e = subst IsNumber (let f : Int x ≡ w = cc in f) tt
read_whole (UInt n) w e = subst IsNumber (let f : UInt n ≡ w = cc in f) tt
read_whole (Truth b) w e = absurd (let no : ⊥ = cc in no)
read_whole (Text s) w e = absurd (let no : ⊥ = cc in no)
read_whole (Vertex n) w e = absurd (let no : ⊥ = cc in no)
read_whole (Tuple vs) w e = absurd (let no : ⊥ = cc in no)
read_whole (Fraction s n) w e = absurd (let no : ⊥ = cc in no)

pub no_truth : (u : Val) (b : Bool) → number_in u ≡ Gives (Truth b) → ⊥
no_truth u b f = read_whole u (Truth b) f

pub no_text : (u : Val) (s : List ℕ) → number_in u ≡ Gives (Text s) → ⊥
no_text u s f = read_whole u (Text s) f

pub no_vertex : (u : Val) (n : ℕ) → number_in u ≡ Gives (Vertex n) → ⊥
no_vertex u n f = read_whole u (Vertex n) f

pub no_tuple : (u : Val) (vs : Vals) → number_in u ≡ Gives (Tuple vs) → ⊥
no_tuple u vs f = read_whole u (Tuple vs) f

pub no_fraction : (u : Val) (x : ℤ) (n : ℕ) → number_in u ≡ Gives (Fraction x n) → ⊥
no_fraction u x n f = read_whole u (Fraction x n) f

pub ruleset other_values = (int_not_uint, uint_not_int, no_truth, no_text, no_vertex, no_tuple, no_fraction)

pub ruleset int_end_laws = (end_stops, end_none, int_end_goes)

pub ruleset uint_end_laws = (end_stops, end_none, uint_end_goes)
