-- EdgeLemmas: the field of an edge, in the cases of the code.
use Rattle.std.proofs.Common.{◌≡◌, ℕ, List, map, Option, Some, None, Result, Ok, Err, refl, sym, ap, subst, ◌∙◌}
use Rattle.std.specs.List.{slice_get}
use Rattle.std.specs.Prelude.{if◌then◌else◌}
use Rattle.std.specs.Option.{option_map}
use Rattle.std.proofs.lemmas.Option.{slice_get-map}
use Rattle.gq_value.specs.Val.{Val}
use Rattle.gq_value.specs.Views.{val}
use Rattle.gq_graph.specs.declared.types.EdgeType.{EdgeType}
use Rattle.gq_graph.specs.declared.rows.EdgeRow.{EdgeRow}
use Rattle.gq_index.specs.declared.store.Graph as code
use Rattle.gq_rules_typing.specs.Sorts.{EdgeSort, bases_of, names_of, attribute_fields, edge_sort}
use Rattle.gq_rules_typing.specs.Words.{OfEdgeType}
use Rattle.gq_rules_meaning.specs.Answers.{Gives, Stuck, ◌>>=◌, found}
use Rattle.gq_rules_meaning.specs.Meanings.{Outcome, said}
use Rattle.gq_rules_meaning.specs.States.{value_at}
use Rattle.gq_rules_meaning.specs.States as states
use Rattle.gq_plan_ir.specs.Reference.{Reference}
use Rattle.gq_plan_ir.specs.References as references
use Rattle.gq_plan_ir.specs.References.{is_type, place_in}
use Rattle.gq_plan_ir.specs.ExprView.{field_of}
use Rattle.gq_plan_ir.specs.declared.expr.Field.{Field}
use Rattle.gq_plan_ir.specs.declared.expr.Field.TheVariants as field
use Rattle.gq_plan_ir.specs.declared.expr.FieldPlaces.{FieldPlaces}
use Rattle.gq_eval_operand.specs.declared.seen.Seen.{Seen}
use Rattle.gq_eval_operand.specs.declared.halt.Halt.{Halt}
use Rattle.gq_eval_operand.specs.declared.halt.Halt.TheVariants as halt
use Rattle.gq_eval_operand.specs.Meant.{meant, Tells}
use Rattle.gq_value.specs.declared.value.Value.{Value}
use Rattle.gq_eval_attributes.specs.Attributes.{attribute_at, attributes_of}
use Rattle.gq_eval_attributes.specs.Worlds.{InWorld}
use Rattle.gq_eval_attributes.proofs.VertexLemmas.{no_attribute, no_value, attribute_there}

go : {A : Type 0} (o : Option A) (k : A → Outcome) (a : A) → o ≡ Some a → (found o >>= k) ≡ k a
go o k a e = ap (λ o. found o >>= k) e

stop : {A : Type 0} (o : Option A) (k : A → Outcome) → o ≡ None → (found o >>= k) ≡ Stuck
stop o k e = ap (λ o. found o >>= k) e

abbrev values : List EdgeRow → List (List Val)
values rows = map (λ (r : EdgeRow). map val r.attributes) rows

-- the values of a row, by its attributes
pub values_at : (rows : List EdgeRow) (r : ℕ) (o : Option (List Value)) → option_map attributes_of (slice_get rows r) ≡ o → slice_get (values rows) r ≡ option_map (map val) o
values_at rows r o e = slice_get-map (λ (r : EdgeRow). map val r.attributes) rows r ∙ both (slice_get rows r) ∙ ap (option_map (map val)) e
  where
    both : (q : Option EdgeRow) → option_map (λ (r : EdgeRow). map val r.attributes) q ≡ option_map (map val) (option_map attributes_of q)
    both None = refl
    both (Some row) = refl

abbrev Named : List EdgeRow → Reference → ℕ → ℕ → EdgeSort → Outcome
Named rows f r t sort =
    if is_type f then said sort.name
    else (found (slice_get (values rows) r) >>= λ vs. value_at (bases_of sort.fields) vs (references.field (OfEdgeType t) (names_of sort.fields) f))

abbrev Whole : List EdgeType → List EdgeRow → Reference → ℕ → ℕ → Outcome
Whole types rows f r t = found (slice_get (map edge_sort types) t) >>= Named rows f r t

whole_untyped : (types : List EdgeType) (rows : List EdgeRow) (f : Reference) (r t : ℕ) → slice_get types t ≡ None → Whole types rows f r t ≡ Stuck
whole_untyped types rows f r t e = stop (slice_get (map edge_sort types) t) (Named rows f r t) (slice_get-map edge_sort types t ∙ ap (option_map edge_sort) e)

whole_typed : (types : List EdgeType) (rows : List EdgeRow) (f : Reference) (r t : ℕ) (u : EdgeType) → slice_get types t ≡ Some u → Whole types rows f r t ≡ Named rows f r t (edge_sort u)
whole_typed types rows f r t u e = go (slice_get (map edge_sort types) t) (Named rows f r t) (edge_sort u) (slice_get-map edge_sort types t ∙ ap (option_map edge_sort) e)

-- ---- in the cases of the code

told : (g : code.Graph) (f : Field) (r t : ℕ) (result : Result Seen Halt) → Tells meant (Whole g.catalog.now.edge_types g.store.now.edges.rows (field_of f) r t) result → InWorld g (λ world. states.edge_field world (field_of f) r t) result
told g f r t result h = record { each = λ vertices edges names tuples clock. h }

pub edge_untyped : (g : code.Graph) (f : Field) (r t : ℕ) → slice_get g.catalog.now.edge_types t ≡ None → InWorld g (λ world. states.edge_field world (field_of f) r t) (Err halt.Stuck)
edge_untyped g f r t e = told g f r t (Err halt.Stuck) (whole_untyped g.catalog.now.edge_types g.store.now.edges.rows (field_of f) r t e)

pub edge_type_said : (g : code.Graph) (r t : ℕ) (u : EdgeType) (b : Seen) → slice_get g.catalog.now.edge_types t ≡ Some u → said u.name ≡ Gives (meant b) → InWorld g (λ world. states.edge_field world (field_of field.Type) r t) (Ok b)
edge_type_said g r t u b e s = told g field.Type r t (Ok b) (whole_typed g.catalog.now.edge_types g.store.now.edges.rows (field_of field.Type) r t u e ∙ s)

pub edge_gone : (g : code.Graph) (c : FieldPlaces) (r t : ℕ) (u : EdgeType) → slice_get g.catalog.now.edge_types t ≡ Some u → option_map attributes_of (slice_get g.store.now.edges.rows r) ≡ None → InWorld g (λ world. states.edge_field world (field_of (field.Named c)) r t) (Err halt.Stuck)
edge_gone g c r t u e f = told g (field.Named c) r t (Err halt.Stuck)
    (whole_typed g.catalog.now.edge_types g.store.now.edges.rows (field_of (field.Named c)) r t u e
    ∙ stop (slice_get (values g.store.now.edges.rows) r) (λ vs. value_at (bases_of (edge_sort u).fields) vs (place_in c (OfEdgeType t) (names_of (edge_sort u).fields))) (values_at g.store.now.edges.rows r None f))

pub edge_at_place : (g : code.Graph) (c : FieldPlaces) (r t : ℕ) (u : EdgeType) (row : List Value) (place : Option ℕ) (result : Result Seen Halt) → slice_get g.catalog.now.edge_types t ≡ Some u → option_map attributes_of (slice_get g.store.now.edges.rows r) ≡ Some row
    → place ≡ place_in c (OfEdgeType t) (names_of (attribute_fields u.attributes)) → Tells meant (attribute_at u.attributes row place) result → InWorld g (λ world. states.edge_field world (field_of (field.Named c)) r t) result
edge_at_place g c r t u row place result e f p h = told g (field.Named c) r t result (subst (λ o. Tells meant o result) (sym
    (whole_typed g.catalog.now.edge_types g.store.now.edges.rows (field_of (field.Named c)) r t u e
    ∙ go (slice_get (values g.store.now.edges.rows) r) (λ vs. value_at (bases_of (edge_sort u).fields) vs (place_in c (OfEdgeType t) (names_of (edge_sort u).fields))) (map val row) (values_at g.store.now.edges.rows r (Some row) f)
    ∙ ap (attribute_at u.attributes row) (sym p))) h)

pub ruleset field_laws = (edge_untyped, edge_type_said, edge_gone, edge_at_place)

pub ruleset value_laws = (no_attribute, no_value, attribute_there)
