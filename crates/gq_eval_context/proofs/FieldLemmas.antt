-- FieldLemmas: the field of the value before a dot, in the cases of the code.
use Rattle.std.proofs.Common.{◌≡◌, ℕ, zero, suc, ◌+◌, Bool, ℤ, List, [], ◌∷◌, map, Option, Some, None, Result, Err, refl, sym, ap, subst, ◌∙◌, arith}
use Rattle.std.specs.List.{slice_get}
use Rattle.std.specs.Option.{option_map}
use Rattle.gq_value.specs.Val.{Val, Int, UInt, Truth, Text, Vertex, Tuple, Fraction, vals_of, list_of}
use Rattle.gq_value.specs.Views.{val, vals}
use Rattle.gq_value.specs.Accums.{Base, INT, UINT, BOOL, STRING, DATETIME, VERTEX, VERTEX_OF, TUPLE, Parts}
use Rattle.gq_value.specs.declared.value.Value.{Value}
use Rattle.gq_accum_laws.specs.Holds.{HoldsEach}
use Rattle.gq_index.specs.declared.store.Graph as code
use Rattle.gq_rules_typing.specs.Sorts.{Fields, bases_of, names_of}
use Rattle.gq_rules_typing.specs.Words.{OfTupleType}
use Rattle.gq_rules_meaning.specs.Answers.{Stuck}
use Rattle.gq_rules_meaning.specs.Meanings.{Is, IsRow, Outcome}
use Rattle.gq_rules_meaning.specs.Expressions.{World}
use Rattle.gq_rules_meaning.specs.States.{value_at}
use Rattle.gq_rules_meaning.specs.States as states
use Rattle.gq_plan_ir.specs.Reference as reference
use Rattle.gq_plan_ir.specs.Reference.{Reference}
use Rattle.gq_plan_ir.specs.References as references
use Rattle.gq_plan_ir.specs.ExprView.{field_of}
use Rattle.gq_plan_ir.specs.declared.expr.Field.{Field}
use Rattle.gq_plan_ir.specs.declared.expr.Field.TheVariants as field
use Rattle.gq_eval_operand.specs.declared.seen.Seen.{Seen}
use Rattle.gq_eval_operand.specs.declared.halt.Halt.{Halt}
use Rattle.gq_eval_operand.specs.declared.halt.Halt.TheVariants as halt
use Rattle.gq_eval_operand.specs.Meant.{meant, Tells}
use Rattle.gq_eval_attributes.specs.declared.tuple_type.TupleType.{TupleType}
use Rattle.gq_eval_attributes.specs.Parts.{name_in, part_named}
use Rattle.gq_eval_attributes.specs.Tuples.{fields_in, tuples_from, tuples_are}
use Rattle.gq_eval_attributes.specs.Worlds.{InWorld}
use Rattle.gq_eval_context.specs.FieldReads.{Reads, tuple_read, of_tuple_type}

-- ---- vertices, edges and group rows

pub in_world : (g : code.Graph) (ts : List TupleType) (m : World Reference → Outcome) (r : Result Seen Halt) → InWorld g m r → Reads g ts m r
in_world g ts m r h = record { each = λ vertices edges names clock. h.each vertices edges names (tuples_are ts) clock }

pub part_reads : (g : code.Graph) (ts : List TupleType) (ps : Parts) (cs : HoldsEach ps) (f : Field) (r : Result Seen Halt) → Tells meant (part_named ps cs (name_in f)) r → Reads g ts (λ world. states.field_of world (IsRow ps cs) (field_of f)) r
part_reads g ts ps cs field.Type r h = record { each = λ vertices edges names clock. h }
part_reads g ts ps cs (field.Named c) r h = record { each = λ vertices edges names clock. h }

pub stuck_reads : (g : code.Graph) (ts : List TupleType) (m : World Reference → Outcome) → ((world : World Reference) → m world ≡ Stuck) → Reads g ts m (Err halt.Stuck)
stuck_reads g ts m h = record { each = λ vertices edges names clock. h _ }

-- the same for each form of Seen
pub of_seen : (g : code.Graph) (ts : List TupleType) (seen it : Seen) (f : Field) (r : Result Seen Halt) → seen ≡ it → Reads g ts (λ world. states.field_of world (meant it) (field_of f)) r → Reads g ts (λ world. states.field_of world (meant seen) (field_of f)) r
of_seen g ts seen it f r e h = subst (λ s. Reads g ts (λ world. states.field_of world (meant s) (field_of f)) r) (sym e) h

pub ruleset seen_laws = (in_world, part_reads, stuck_reads)

-- ---- values

pub vertex_reads : (g : code.Graph) (ts : List TupleType) (b : Base) (u : Val) (v : ℕ) (f : Field) (r : Result Seen Halt) → u ≡ Vertex v → InWorld g (λ world. states.vertex_field world (field_of f) v) r → Reads g ts (λ world. states.field_of world (Is b u) (field_of f)) r
vertex_reads g ts b u v f r e h = subst (λ u. Reads g ts (λ world. states.field_of world (Is b u) (field_of f)) r) (sym e) (in_world g ts (λ world. states.vertex_field world (field_of f) v) r h)

no_field : (g : code.Graph) (ts : List TupleType) (b : Base) (u w : Val) (f : Field) → u ≡ w → ((world : World Reference) → states.field_of world (Is b w) (field_of f) ≡ Stuck) → Reads g ts (λ world. states.field_of world (Is b u) (field_of f)) (Err halt.Stuck)
no_field g ts b u w f e h = subst (λ u. Reads g ts (λ world. states.field_of world (Is b u) (field_of f)) (Err halt.Stuck)) (sym e) (stuck_reads g ts (λ world. states.field_of world (Is b w) (field_of f)) h)

pub int_reads : (g : code.Graph) (ts : List TupleType) (b : Base) (u : Val) (x : ℤ) (f : Field) → u ≡ Int x → Reads g ts (λ world. states.field_of world (Is b u) (field_of f)) (Err halt.Stuck)
int_reads g ts b u x f e = no_field g ts b u (Int x) f e (λ world. refl)

pub uint_reads : (g : code.Graph) (ts : List TupleType) (b : Base) (u : Val) (n : ℕ) (f : Field) → u ≡ UInt n → Reads g ts (λ world. states.field_of world (Is b u) (field_of f)) (Err halt.Stuck)
uint_reads g ts b u n f e = no_field g ts b u (UInt n) f e (λ world. refl)

pub truth_reads : (g : code.Graph) (ts : List TupleType) (b : Base) (u : Val) (q : Bool) (f : Field) → u ≡ Truth q → Reads g ts (λ world. states.field_of world (Is b u) (field_of f)) (Err halt.Stuck)
truth_reads g ts b u q f e = no_field g ts b u (Truth q) f e (λ world. refl)

pub text_reads : (g : code.Graph) (ts : List TupleType) (b : Base) (u : Val) (s : List ℕ) (f : Field) → u ≡ Text s → Reads g ts (λ world. states.field_of world (Is b u) (field_of f)) (Err halt.Stuck)
text_reads g ts b u s f e = no_field g ts b u (Text s) f e (λ world. refl)

pub fraction_reads : (g : code.Graph) (ts : List TupleType) (b : Base) (u : Val) (x : ℤ) (n : ℕ) (f : Field) → u ≡ Fraction x n → Reads g ts (λ world. states.field_of world (Is b u) (field_of f)) (Err halt.Stuck)
fraction_reads g ts b u x n f e = no_field g ts b u (Fraction x n) f e (λ world. refl)

-- ---- tuples

listed : (vs : List Val) → list_of (vals_of vs) ≡ vs
listed [] = refl
listed (v ∷ vs) = ap (λ vs. v ∷ vs) (listed vs)

types_from : (n i : ℕ) (ts : List TupleType) → slice_get (tuples_from n ts) i ≡ option_map (λ t. (reference.TupleType (n + i), fields_in t)) (slice_get ts i)
types_from n i [] = refl
types_from n zero (t ∷ ts) = ap (λ m. Some (reference.TupleType m, fields_in t)) (let e : n ≡ n + 0 = omega arith in e)
types_from n (suc i) (t ∷ ts) = types_from (suc n) i ts ∙ ap (λ m. option_map (λ t. (reference.TupleType m, fields_in t)) (slice_get ts i)) (let e : suc n + i ≡ n + suc i = omega arith in e)

abbrev fields_at : Option (Reference × Fields) → Fields
fields_at None = []
fields_at (Some t) = t.1

-- the value of a tuple's field, with the fields of its type
abbrev read_by : Fields → ℕ → List Val → Reference → Outcome
read_by fields n row f = value_at (bases_of fields) row (references.field (OfTupleType n) (names_of fields) f)

no_fields : (row : List Val) (o : Option ℕ) → value_at [] row o ≡ Stuck
no_fields row None = refl
no_fields row (Some i) = refl

read_typed : (ts : List TupleType) (n : ℕ) (row : List Val) (f : Reference) → read_by (fields_at (slice_get (tuples_are ts) n)) n row f ≡ of_tuple_type (slice_get ts n) n row f
read_typed ts n row f = ap (λ o. read_by (fields_at o) n row f) (types_from 0 n ts) ∙ at_type (slice_get ts n)
  where
    at_type : (o : Option TupleType) → read_by (fields_at (option_map (λ t. (reference.TupleType (0 + n), fields_in t)) o)) n row f ≡ of_tuple_type o n row f
    at_type None = no_fields row (references.field (OfTupleType n) [] f)
    at_type (Some t) = refl

tuple_told : (g : code.Graph) (ts : List TupleType) (b : Base) (vs : List Val) (f : Field) (r : Result Seen Halt) → Tells meant (tuple_read ts b vs (field_of f)) r → Reads g ts (λ world. states.field_of world (Is b (Tuple (vals_of vs))) (field_of f)) r
tuple_told g ts (TUPLE n bs) vs f r h = record {
  each = λ vertices edges names clock.
      subst (λ o. Tells meant o r) (sym (ap (λ vs. read_by (fields_at (slice_get (tuples_are ts) n)) n vs (field_of f)) (listed vs) ∙ read_typed ts n vs (field_of f))) h;
}
tuple_told g ts INT vs f r h = record { each = λ vertices edges names clock. h }
tuple_told g ts UINT vs f r h = record { each = λ vertices edges names clock. h }
tuple_told g ts BOOL vs f r h = record { each = λ vertices edges names clock. h }
tuple_told g ts STRING vs f r h = record { each = λ vertices edges names clock. h }
tuple_told g ts DATETIME vs f r h = record { each = λ vertices edges names clock. h }
tuple_told g ts VERTEX vs f r h = record { each = λ vertices edges names clock. h }
tuple_told g ts (VERTEX_OF t) vs f r h = record { each = λ vertices edges names clock. h }

pub tuple_reads : (g : code.Graph) (ts : List TupleType) (b : Base) (u : Val) (row : List Value) (f : Field) (r : Result Seen Halt) → u ≡ Tuple (vals row) → Tells meant (tuple_read ts b (map val row) (field_of f)) r → Reads g ts (λ world. states.field_of world (Is b u) (field_of f)) r
tuple_reads g ts b u row f r e h = subst (λ u. Reads g ts (λ world. states.field_of world (Is b u) (field_of f)) r) (sym e) (tuple_told g ts b (map val row) f r h)

pub ruleset value_laws = (vertex_reads, int_reads, uint_reads, truth_reads, text_reads, fraction_reads, tuple_reads)

pub typed_told : (ts : List TupleType) (n : ℕ) (t : TupleType) (row : List Val) (f : Reference) (r : Result Seen Halt) → slice_get ts n ≡ Some t → Tells meant (value_at (bases_of (fields_in t)) row (references.field (OfTupleType n) (names_of (fields_in t)) f)) r → Tells meant (of_tuple_type (slice_get ts n) n row f) r
typed_told ts n t row f r e h = subst (λ o. Tells meant (of_tuple_type o n row f) r) (sym e) h

pub untyped_told : (ts : List TupleType) (n : ℕ) (row : List Val) (f : Reference) → slice_get ts n ≡ None → of_tuple_type (slice_get ts n) n row f ≡ Stuck
untyped_told ts n row f e = ap (λ o. of_tuple_type o n row f) e

pub ruleset tuple_laws = (typed_told, untyped_told)
