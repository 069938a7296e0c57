-- LimitLemmas: the number of a LIMIT, in the cases of the code.
use Rattle.std.proofs.Common.{◌≡◌, ℕ, Bool, List, ℤ, pos, refl, ap, subst, ◌∙◌}
use Rattle.gq_value.specs.Val.{Val, Int, UInt, Truth, Text, Vertex, Tuple, Fraction}
use Rattle.gq_value.specs.Views.{val, vals}
use Rattle.gq_value.specs.ViewLaws.{val-Bool, val-Text, val-Vertex, val-Tuple, val-Fraction}
use Rattle.gq_value.specs.declared.value.Fraction as fraction
use Rattle.gq_value.specs.declared.value.Value.{Value}
use Rattle.gq_value.specs.declared.value.Value.TheVariants as value
use Rattle.gq_value.specs.Arithmetic.{IsWhole}
use Rattle.gq_rules_meaning.specs.Answers.{Gives, Stuck}
use Rattle.gq_rules_meaning.specs.Meanings.{as_number}
use Rattle.gq_rules_meaning.specs.Runs.{count_of}
use Rattle.gq_eval_operand.specs.declared.halt.Halt.{Halt}
use Rattle.gq_eval_operand.specs.declared.halt.Halt.TheVariants as halt
use Rattle.gq_eval_operand.specs.Meant.{Halts, number_in}
use Rattle.gq_eval_context.specs.Limits.{most_of}

never : {A B : Type 0} (a : A) (b : B) (h : Halt) → Halts (Gives a) h → Halts (Gives b) h
never a b (halt.Wrong w) e = absurd (cc)
never a b halt.Stuck e = absurd (cc)
never a b halt.OutOfMemory e = tt

stuck_too : (A B : Type 0) (h : Halt) → Halts {A = A} Stuck h → Halts {A = B} Stuck h
stuck_too A B (halt.Wrong w) e = absurd (cc)
stuck_too A B halt.Stuck e = refl
stuck_too A B halt.OutOfMemory e = tt

pub number_stops : (v : Val) (h : Halt) → Halts (number_in v) h → Halts (most_of (as_number v)) h
number_stops (Int x) h e = never (Int x) (count_of x) h e
number_stops (UInt n) h e = never (UInt n) n h e
number_stops (Truth b) h e = stuck_too Val ℕ h e
number_stops (Text s) h e = stuck_too Val ℕ h e
number_stops (Vertex n) h e = stuck_too Val ℕ h e
number_stops (Tuple vs) h e = stuck_too Val ℕ h e
number_stops (Fraction s n) h e = stuck_too Val ℕ h e

-- ---- a whole number is itself

pub int_is : (v : Val) (x : ℤ) → number_in v ≡ Gives (Int x) → as_number v ≡ Gives x
int_is (Int y) x e = ap Gives (let f : y ≡ x = cc in f)
int_is (UInt n) x e = absurd (cc)
int_is (Truth b) x e = absurd (cc)
int_is (Text s) x e = absurd (cc)
int_is (Vertex n) x e = absurd (cc)
int_is (Tuple vs) x e = absurd (cc)
int_is (Fraction s n) x e = absurd (cc)

pub uint_is : (v : Val) (n : ℕ) → number_in v ≡ Gives (UInt n) → as_number v ≡ Gives (pos n)
uint_is (Int y) n e = absurd (cc)
uint_is (UInt m) n e = ap (λ k. Gives (pos k)) (let f : m ≡ n = cc in f)
uint_is (Truth b) n e = absurd (cc)
uint_is (Text s) n e = absurd (cc)
uint_is (Vertex m) n e = absurd (cc)
uint_is (Tuple vs) n e = absurd (cc)
uint_is (Fraction s m) n e = absurd (cc)

pub number_int : (v : Val) (x : ℤ) (n : ℕ) → number_in v ≡ Gives (Int x) → count_of x ≡ n → most_of (as_number v) ≡ Gives n
number_int v x n e c = ap most_of (int_is v x e) ∙ ap Gives c

pub number_uint : (v : Val) (n : ℕ) → number_in v ≡ Gives (UInt n) → most_of (as_number v) ≡ Gives n
number_uint v n e = ap most_of (uint_is v n e)

pub ruleset limit_laws = (number_stops, number_int, number_uint)

-- ---- a whole number is nothing else

module _ (v : Value) (w : IsWhole (val v)) where
  other : (u : Val) → val v ≡ u → IsWhole u
  other u is = subst IsWhole is w

  pub no_truth : (b : Bool) → v ≡ value.Bool b → ⊥
  no_truth b is = other (Truth b) (ap val is ∙ val-Bool b)

  pub no_text : (bs : List ℕ) → v ≡ value.Text bs → ⊥
  no_text bs is = other (Text bs) (ap val is ∙ val-Text bs)

  pub no_vertex : (n : ℕ) → v ≡ value.Vertex n → ⊥
  no_vertex n is = other (Vertex n) (ap val is ∙ val-Vertex n)

  pub no_tuple : (row : List Value) → v ≡ value.Tuple row → ⊥
  no_tuple row is = other (Tuple (vals row)) (ap val is ∙ val-Tuple row)

  pub no_fraction : (f : fraction.Fraction) → v ≡ value.Fraction f → ⊥
  no_fraction f is = other (Fraction f.sum f.count) (ap val is ∙ val-Fraction f)
