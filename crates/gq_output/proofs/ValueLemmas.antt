-- ValueLemmas: the printed form of each variant of a value.
use Rattle.std.proofs.Common.{◌≡◌, ℕ, zero, suc, ◌+◌, ℤ, Bool, List, [], ◌∷◌, map, Option, Some, None, Result, Ok, Err, IfOk, refl, sym, ap, ◌∙◌, arith}
use Rattle.std.specs.List.{slice_get}
use Rattle.std.specs.Option.{option_map}
use Rattle.gq_value.specs.Val.{Val, Int, UInt, Truth, Text, Vertex, Tuple, Fraction, vals_of}
use Rattle.gq_value.specs.Views.{val, vals}
use Rattle.gq_value.specs.Accums.{Base, INT, UINT, BOOL, STRING, DATETIME, VERTEX, VERTEX_OF, TUPLE, Bases}
use Rattle.gq_value.specs.declared.value.Fraction as fraction
use Rattle.gq_value.specs.declared.value.Value.{Value}
use Rattle.gq_json.specs.declared.out.Out as json
use Rattle.gq_json.specs.declared.out.Out.TheVariants as out
use Rattle.gq_rules_typing.specs.Statements.{Bytes}
use Rattle.gq_rules_typing.specs.Sorts.{Fields}
use Rattle.gq_rules_typing.specs.FieldTypes.{tuple_fields}
use Rattle.gq_rules_meaning.specs.Built.{built_members}
use Rattle.gq_rules_meaning.specs.Calendars.{Calendar}
use Rattle.gq_rules_meaning.specs.Expressions.{World, setting}
use Rattle.gq_rules_meaning.specs.Outs.{out_fields, id_of}
use Rattle.gq_plan_ir.specs.Reference as reference
use Rattle.gq_plan_ir.specs.Reference.{Reference}
use Rattle.gq_eval_attributes.specs.declared.tuple_type.TupleType.{TupleType}
use Rattle.gq_eval_attributes.specs.Tuples.{fields_in, tuples_from}
use Rattle.gq_eval_context.specs.Viewed.{Over}
use Rattle.gq_eval_context.specs.Looks.{world_over}
use Rattle.gq_output.specs.Printed.{int_shown, value_shown, named_shown}

module _ (world : World Reference) (b : Base) (v : Val) where
  pub uint_shown : (n : ℕ) → v ≡ UInt n → out.UInt n ≡ value_shown world b v
  uint_shown n e = sym (ap (value_shown world b) e ∙ by b)
    where
      by : (c : Base) → value_shown world c (UInt n) ≡ out.UInt n
      by INT = refl
      by UINT = refl
      by BOOL = refl
      by STRING = refl
      by DATETIME = refl
      by VERTEX = refl
      by (VERTEX_OF t) = refl
      by (TUPLE m bs) = refl

  pub truth_shown : (t : Bool) → v ≡ Truth t → out.Bool t ≡ value_shown world b v
  truth_shown t e = sym (ap (value_shown world b) e ∙ by b)
    where
      by : (c : Base) → value_shown world c (Truth t) ≡ out.Bool t
      by INT = refl
      by UINT = refl
      by BOOL = refl
      by STRING = refl
      by DATETIME = refl
      by VERTEX = refl
      by (VERTEX_OF k) = refl
      by (TUPLE m bs) = refl

  pub text_shown : (s : Bytes) → v ≡ Text s → out.Text s ≡ value_shown world b v
  text_shown s e = sym (ap (value_shown world b) e ∙ by b)
    where
      by : (c : Base) → value_shown world c (Text s) ≡ out.Text s
      by INT = refl
      by UINT = refl
      by BOOL = refl
      by STRING = refl
      by DATETIME = refl
      by VERTEX = refl
      by (VERTEX_OF t) = refl
      by (TUPLE m bs) = refl

  pub vertex_shown : (n : ℕ) (s : Bytes) → v ≡ Vertex n → s ≡ id_of world.graph n → out.Text s ≡ value_shown world b v
  vertex_shown n s e f = ap out.Text f ∙ sym (ap (value_shown world b) e ∙ by b)
    where
      by : (c : Base) → value_shown world c (Vertex n) ≡ out.Text (id_of world.graph n)
      by INT = refl
      by UINT = refl
      by BOOL = refl
      by STRING = refl
      by DATETIME = refl
      by VERTEX = refl
      by (VERTEX_OF t) = refl
      by (TUPLE m bs) = refl

  pub fraction_shown : (f : fraction.Fraction) → v ≡ Fraction f.sum f.count → out.Fraction f ≡ value_shown world b v
  fraction_shown f e = sym (ap (value_shown world b) e ∙ by b)
    where
      by : (c : Base) → value_shown world c (Fraction f.sum f.count) ≡ out.Fraction f
      by INT = refl
      by UINT = refl
      by BOOL = refl
      by STRING = refl
      by DATETIME = refl
      by VERTEX = refl
      by (VERTEX_OF t) = refl
      by (TUPLE m bs) = refl

  pub same_shown : (w : Val) (o : json.Out) → v ≡ w → o ≡ value_shown world b w → o ≡ value_shown world b v
  same_shown w o e h = h ∙ ap (value_shown world b) (sym e)

-- ---- numbers

-- a signed number of a type
pub number_shown : (clock : Calendar) (s : Over) (b : Base) (v : Val) (x : ℤ) (o : json.Out) → v ≡ Int x → o ≡ int_shown clock b x → o ≡ value_shown (world_over clock s) b v
number_shown clock s b v x o e h = h ∙ by b ∙ sym (ap (value_shown (world_over clock s) b) e)
  where
    by : (c : Base) → int_shown clock c x ≡ value_shown (world_over clock s) c (Int x)
    by INT = refl
    by UINT = refl
    by BOOL = refl
    by STRING = refl
    by DATETIME = refl
    by VERTEX = refl
    by (VERTEX_OF t) = refl
    by (TUPLE m bs) = refl

pub ruleset value_laws = (uint_shown, truth_shown, text_shown, vertex_shown, fraction_shown, same_shown, number_shown)

-- ---- tuples

fields_shown : (world : World Reference) (fs : Fields) (vs : List Val) → built_members (out_fields world fs (vals_of vs)) ≡ named_shown world fs vs
fields_shown world [] vs = refl
fields_shown world (f ∷ fs) [] = refl
fields_shown world (f ∷ fs) (v ∷ vs) = ap (λ ms. (f.0, value_shown world f.1 v) ∷ ms) (fields_shown world fs vs)

types_from : (n i : ℕ) (ts : List TupleType) → slice_get (tuples_from n ts) i ≡ option_map (λ t. (reference.TupleType (n + i), fields_in t)) (slice_get ts i)
types_from n i [] = refl
types_from n zero (t ∷ ts) = ap (λ m. Some (reference.TupleType m, fields_in t)) (let e : n ≡ n + 0 = omega arith in e)
types_from n (suc i) (t ∷ ts) = types_from (suc n) i ts ∙ ap (λ m. option_map (λ t. (reference.TupleType m, fields_in t)) (slice_get ts i)) (let e : suc n + i ≡ n + suc i = omega arith in e)

abbrev fields_at : Option (Reference × Fields) → Fields
fields_at None = []
fields_at (Some t) = t.1

type_there : (clock : Calendar) (s : Over) (n : ℕ) (t : TupleType) → slice_get s.tuples n ≡ Some t → tuple_fields (setting (world_over clock s)) n ≡ fields_in t
type_there clock s n t e = ap fields_at (types_from 0 n s.tuples ∙ ap (option_map (λ t. (reference.TupleType (0 + n), fields_in t))) e)

pub tuple_shown : (clock : Calendar) (s : Over) (n : ℕ) (bs : Bases) (t : TupleType) (row : List Value) (members : List (Bytes × json.Out)) → slice_get s.tuples n ≡ Some t → members ≡ named_shown (world_over clock s) (fields_in t) (map val row)
    → out.Object members ≡ value_shown (world_over clock s) (TUPLE n bs) (Tuple (vals row))
tuple_shown clock s n bs t row members e h =
    ap out.Object (h ∙ sym (ap (λ fs. built_members (out_fields (world_over clock s) fs (vals row))) (type_there clock s n t e) ∙ fields_shown (world_over clock s) (fields_in t) (map val row)))

pub tuple_told : {E : Type 0} (clock : Calendar) (s : Over) (b : Base) (n : ℕ) (bs : Bases) (t : TupleType) (row : List Value) (r : Result (List (Bytes × json.Out)) E) → b ≡ TUPLE n bs → slice_get s.tuples n ≡ Some t
    → IfOk r (λ ms. ms ≡ named_shown (world_over clock s) (fields_in t) (map val row)) → IfOk r (λ ms. out.Object ms ≡ value_shown (world_over clock s) b (Tuple (vals row)))
tuple_told clock s b n bs t row (Ok ms) e f h = tuple_shown clock s n bs t row ms f h ∙ ap (λ c. value_shown (world_over clock s) c (Tuple (vals row))) (sym e)
tuple_told clock s b n bs t row (Err m) e f h = tt

-- a tuple type that isn't there has no fields
type_missing : (clock : Calendar) (s : Over) (n : ℕ) → slice_get s.tuples n ≡ None → tuple_fields (setting (world_over clock s)) n ≡ []
type_missing clock s n e = ap fields_at (types_from 0 n s.tuples ∙ ap (option_map (λ t. (reference.TupleType (0 + n), fields_in t))) e)

pub untyped_shown : (clock : Calendar) (s : Over) (b : Base) (n : ℕ) (bs : Bases) (row : List Value) (members : List (Bytes × json.Out)) → b ≡ TUPLE n bs → slice_get s.tuples n ≡ None → members ≡ []
    → out.Object members ≡ value_shown (world_over clock s) b (Tuple (vals row))
untyped_shown clock s b n bs row members e f is =
    ap out.Object (is ∙ sym (ap (λ fs. built_members (out_fields (world_over clock s) fs (vals row))) (type_missing clock s n f)))
    ∙ ap (λ c. value_shown (world_over clock s) c (Tuple (vals row))) (sym e)

pub ruleset tuple_laws = (tuple_told, untyped_shown)
