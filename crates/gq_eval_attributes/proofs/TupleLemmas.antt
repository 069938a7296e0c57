-- TupleLemmas: the field of a tuple, in the cases of the code.
use Rattle.std.proofs.Common.{◌≡◌, ℕ, List, [], ◌∷◌, map, length, Option, Some, None, refl, sym, ap, ◌∙◌, arith}
use Rattle.std.specs.List.{slice_get, zip}
use Rattle.std.specs.Prelude.{codes}
use Rattle.std.specs.Option.{option_map}
use Rattle.std.proofs.lemmas.Option.{slice_get-map}
use Rattle.gq_value.specs.Val.{Val}
use Rattle.gq_value.specs.Views.{val}
use Rattle.gq_value.specs.Accums.{Base}
use Rattle.gq_value.specs.AccumViews.{base_of}
use Rattle.gq_value.specs.declared.kind.BaseType.{BaseType}
use Rattle.gq_value.specs.declared.value.Value.{Value}
use Rattle.gq_rules_typing.specs.Statements.{Bytes}
use Rattle.gq_rules_typing.specs.Sorts.{bases_of, names_of}
use Rattle.gq_rules_typing.specs.Words.{OfTupleType, place_of}
use Rattle.gq_rules_meaning.specs.Answers.{Gives, Stuck}
use Rattle.gq_rules_meaning.specs.Meanings.{Is}
use Rattle.gq_rules_meaning.specs.States.{value_at}
use Rattle.gq_plan_ir.specs.References as references
use Rattle.gq_plan_ir.specs.References.{place_in}
use Rattle.gq_plan_ir.specs.ExprView.{field_of}
use Rattle.gq_plan_ir.specs.declared.expr.Field.TheVariants as field
use Rattle.gq_plan_ir.specs.declared.expr.FieldPlaces.{FieldPlaces}
use Rattle.gq_eval_attributes.specs.declared.tuple_type.TupleType.{TupleType}
use Rattle.gq_eval_attributes.specs.Tuples.{fields_in}
use Rattle.gq_eval_attributes.proofs.ListLemmas.{value_there, no_base_there, no_value_there}

zip_names : (ns : List Bytes) (bs : List BaseType) → length ns ≡ length bs → names_of (map {A = Bytes × BaseType} {B = Bytes × Base} (λ f. (f.0, base_of f.1)) (zip ns bs)) ≡ ns
zip_names [] [] e = refl
zip_names [] (b ∷ bs) e = absurd (omega (arith, e))
zip_names (n ∷ ns) [] e = absurd (omega (arith, e))
zip_names (n ∷ ns) (b ∷ bs) e = ap (λ ns. n ∷ ns) (zip_names ns bs (omega (arith, e)))

zip_bases : (ns : List Bytes) (bs : List BaseType) → length ns ≡ length bs → bases_of (map {A = Bytes × BaseType} {B = Bytes × Base} (λ f. (f.0, base_of f.1)) (zip ns bs)) ≡ map base_of bs
zip_bases [] [] e = refl
zip_bases [] (b ∷ bs) e = absurd (omega (arith, e))
zip_bases (n ∷ ns) [] e = absurd (omega (arith, e))
zip_bases (n ∷ ns) (b ∷ bs) e = ap (λ bs. base_of b ∷ bs) (zip_bases ns bs (omega (arith, e)))

pub tuple_names : (t : TupleType) → names_of (fields_in t) ≡ t.names
tuple_names t = zip_names t.names t.types t.each

pub tuple_bases : (t : TupleType) → bases_of (fields_in t) ≡ map base_of t.types
tuple_bases t = zip_bases t.names t.types t.each

-- ---- places

pub by_type_name : (t : TupleType) (n : ℕ) (o : Option ℕ) → o ≡ place_of t.names (codes "type") → o ≡ references.field (OfTupleType n) (names_of (fields_in t)) (field_of field.Type)
by_type_name t n o e = e ∙ ap (λ ns. place_of ns (codes "type")) (sym (tuple_names t))

pub by_name : (t : TupleType) (n : ℕ) (c : FieldPlaces) (o : Option ℕ) → slice_get c.tuples n ≡ None → o ≡ place_of t.names c.name → o ≡ references.field (OfTupleType n) (names_of (fields_in t)) (field_of (field.Named c))
by_name t n c o past e = e ∙ ap (λ ns. place_of ns c.name) (sym (tuple_names t)) ∙ sym (ap (λ q. at_entry q) past)
  where
    at_entry : Option (Option ℕ) → Option ℕ
    at_entry None = place_of (names_of (fields_in t)) c.name
    at_entry (Some place) = place

pub by_table : (t : TupleType) (n : ℕ) (c : FieldPlaces) (o : Option ℕ) → slice_get c.tuples n ≡ Some o → o ≡ references.field (OfTupleType n) (names_of (fields_in t)) (field_of (field.Named c))
by_table t n c o there = sym (ap (λ q. at_entry q) there)
  where
    at_entry : Option (Option ℕ) → Option ℕ
    at_entry None = place_of (names_of (fields_in t)) c.name
    at_entry (Some place) = place

pub ruleset place_laws = (by_type_name, by_name, by_table)

-- ---- values

base_at : (t : TupleType) (i : ℕ) → slice_get (bases_of (fields_in t)) i ≡ option_map base_of (slice_get t.types i)
base_at t i = ap (λ bs. slice_get bs i) (tuple_bases t) ∙ slice_get-map base_of t.types i

pub no_place : (t : TupleType) (vs : List Val) (o : Option ℕ) → None ≡ o → value_at (bases_of (fields_in t)) vs o ≡ Stuck
no_place t vs o e = ap (value_at (bases_of (fields_in t)) vs) (sym e)

pub no_field : (t : TupleType) (vs : List Val) (i : ℕ) (o : Option ℕ) → Some i ≡ o → slice_get t.types i ≡ None → value_at (bases_of (fields_in t)) vs o ≡ Stuck
no_field t vs i o e past = ap (value_at (bases_of (fields_in t)) vs) (sym e) ∙ no_base_there (bases_of (fields_in t)) vs i (base_at t i ∙ ap (option_map base_of) past)

pub no_value : (t : TupleType) (row : List Value) (i : ℕ) (o : Option ℕ) (b : BaseType) → Some i ≡ o → slice_get t.types i ≡ Some b → slice_get row i ≡ None → value_at (bases_of (fields_in t)) (map val row) o ≡ Stuck
no_value t row i o b e there past = ap (value_at (bases_of (fields_in t)) (map val row)) (sym e) ∙ no_value_there (bases_of (fields_in t)) (map val row) i (base_of b) (base_at t i ∙ ap (option_map base_of) there) (slice_get-map val row i ∙ ap (option_map val) past)

pub field_there : (t : TupleType) (row : List Value) (i : ℕ) (o : Option ℕ) (b : BaseType) (v : Value) (c : Base) → Some i ≡ o → slice_get t.types i ≡ Some b → c ≡ base_of b → slice_get row i ≡ Some v → value_at (bases_of (fields_in t)) (map val row) o ≡ Gives (Is c (val v))
field_there t row i o b v c e there k held = ap (value_at (bases_of (fields_in t)) (map val row)) (sym e) ∙ value_there (bases_of (fields_in t)) (map val row) i c (val v) (base_at t i ∙ ap (option_map base_of) there ∙ ap Some (sym k)) (slice_get-map val row i ∙ ap (option_map val) held)

pub ruleset field_laws = (no_place, no_field, no_value, field_there)
