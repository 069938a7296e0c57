-- ConvertLemmas: types as stored, and numbers as numbers of a type.
use Rattle.std.proofs.Common.{◌≡◌, ℕ, List, map, Result, refl, sym, ap, subst, ◌∙◌}
use Rattle.gq_value.specs.declared.kind.BaseType.{BaseType, BaseType-F, fold-roll-BaseType}
use Rattle.gq_value.specs.declared.kind.BaseType.TheVariants as base
use Rattle.gq_value.specs.declared.kind.Number.{Number}
use Rattle.gq_value.specs.declared.value.Value.{Value}
use Rattle.gq_value.specs.declared.value.Wrong.{Wrong}
use Rattle.gq_value.specs.declared.value.EvalFault.{EvalFault}
use Rattle.gq_value.specs.Val.{Val, Int, UInt}
use Rattle.gq_value.specs.Answers as value_answers
use Rattle.gq_value.specs.Arithmetic.{converted}
use Rattle.gq_value.specs.Accums.{Base, INT, UINT, BOOL, STRING, DATETIME, VERTEX, VERTEX_OF, TUPLE}
use Rattle.gq_value.specs.AccumViews.{bases, base_step, base_of}
use Rattle.gq_plan_ir.specs.Answers.{Answer, Gives, Faults, Stuck, ◌>>=◌, of_result}
use Rattle.gq_eval_operand.specs.declared.halt.Halt.{Halt}
use Rattle.gq_eval_operand.specs.Meant.{number_in, number_to, Halts, Told, Tells}
use Rattle.gq_eval_operand.proofs.OperatorLemmas.{first_stops, told}

-- ---- types

pub base_of-Int : base_of base.Int ≡ INT
unfolding base_of
base_of-Int = ap base_of (sym base.rolls-Int) ∙ fold-roll-BaseType Base base_step BaseType-F.Int

pub base_of-UInt : base_of base.UInt ≡ UINT
unfolding base_of
base_of-UInt = ap base_of (sym base.rolls-UInt) ∙ fold-roll-BaseType Base base_step BaseType-F.UInt

pub base_of-Bool : base_of base.Bool ≡ BOOL
unfolding base_of
base_of-Bool = ap base_of (sym base.rolls-Bool) ∙ fold-roll-BaseType Base base_step BaseType-F.Bool

pub base_of-Text : base_of base.Text ≡ STRING
unfolding base_of
base_of-Text = ap base_of (sym base.rolls-Text) ∙ fold-roll-BaseType Base base_step BaseType-F.Text

pub base_of-AnyVertex : base_of base.AnyVertex ≡ VERTEX
unfolding base_of
base_of-AnyVertex = ap base_of (sym base.rolls-AnyVertex) ∙ fold-roll-BaseType Base base_step BaseType-F.AnyVertex

pub base_of-Time : base_of base.Time ≡ DATETIME
unfolding base_of
base_of-Time = ap base_of (sym base.rolls-Time) ∙ fold-roll-BaseType Base base_step BaseType-F.Time

pub base_of-VertexOf : (t : ℕ) → base_of (base.VertexOf t) ≡ VERTEX_OF t
unfolding base_of
base_of-VertexOf t = ap base_of (sym (base.rolls-VertexOf t)) ∙ fold-roll-BaseType Base base_step (BaseType-F.VertexOf t)

pub base_of-Tuple : (n : ℕ) (fields : List BaseType) → base_of (base.Tuple n fields) ≡ TUPLE n (bases (map base_of fields))
unfolding base_of
base_of-Tuple n fields = ap base_of (sym (base.rolls-Tuple n fields)) ∙ fold-roll-BaseType Base base_step (BaseType-F.Tuple n fields)

pub ruleset base_laws = (base_of-Int, base_of-UInt, base_of-Bool, base_of-Text, base_of-AnyVertex, base_of-Time, base_of-VertexOf, base_of-Tuple)

-- ---- numbers of a type

pub number_stops : (t : Number) (v : Val) (h : Halt) → Halts (number_in v) h → Halts (number_to t v) h
number_stops t v h p = first_stops v _ h p

next_same : (o : Answer Wrong Val) → (o >>= Gives) ≡ o
next_same (Gives v) = refl
next_same (Faults w) = refl
next_same Stuck = refl

number_is : (t : Number) (v a : Val) → number_in v ≡ Gives a → number_to t v ≡ of_result (converted a t)
number_is t (Int x) a h = ap (λ c. of_result (converted c t)) (let e : Int x ≡ a = cc in e)
number_is t (UInt n) a h = ap (λ c. of_result (converted c t)) (let e : UInt n ≡ a = cc in e)
number_is t _ a h = absurd (cc)

pub number_told : {B : Type 0} (view : B → Val) (t : Number) (free : Type 0) (v a : Val) (answer : Result Value EvalFault) (r : Result B Halt)
    → number_in v ≡ Gives a → value_answers.Gives free answer (converted a t) → Told view Gives answer r → Tells view (number_to t v) r
number_told view t free v a answer r is given t' =
    subst (λ o. Tells view o r) (next_same (of_result (converted a t)) ∙ sym (number_is t v a is)) (told view Gives free answer (converted a t) r given t')

pub ruleset number_laws = (number_stops, number_told)
