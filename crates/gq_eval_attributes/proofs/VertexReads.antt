-- VertexReads: the INT that an attribute of a vertex is, in the cases of the code.
use Rattle.std.proofs.Common.{◌≡◌, ℕ, suc, ◌<◌, Bool, true, false, ℤ, List, ◌∷◌, map, length, Option, Some, sym, ap, subst, ◌∙◌}
use Rattle.std.specs.List.{slice_get}
use Rattle.std.specs.Prelude.{if◌then◌else◌, IfSome}
use Rattle.std.specs.Option.{option_map, option_flatten}
use Rattle.std.proofs.lemmas.Option.{slice_get-map}
use Rattle.gq_value.specs.Val.{Val, Int}
use Rattle.gq_value.specs.Views.{val}
use Rattle.gq_graph.specs.Catalog.{Schema}
use Rattle.gq_graph.specs.Vertices.{vertex_at, no_vertex}
use Rattle.gq_graph.specs.declared.types.VertexType.{VertexType}
use Rattle.gq_graph.specs.declared.rows.VertexRow.{VertexRow}
use Rattle.gq_index.specs.declared.store.Graph as code
use Rattle.gq_rules_typing.specs.Sorts.{Fields, VertexSort, bases_of, names_of, attribute_fields, vertex_sort, id_base}
use Rattle.gq_rules_typing.specs.Words.{OfVertexType}
use Rattle.gq_rules_meaning.specs.Answers.{Gives, ◌>>=◌, found}
use Rattle.gq_rules_meaning.specs.Graphs.{id_value, with_shown, values_in}
use Rattle.gq_rules_meaning.specs.Meanings.{Outcome, said}
use Rattle.gq_rules_meaning.specs.States.{value_at}
use Rattle.gq_rules_meaning.specs.States as states
use Rattle.gq_plan_ir.specs.Reference.{Reference}
use Rattle.gq_plan_ir.specs.References as references
use Rattle.gq_plan_ir.specs.References.{is_type, place_in}
use Rattle.gq_plan_ir.specs.ExprView.{field_of}
use Rattle.gq_plan_ir.specs.declared.expr.Field.TheVariants as field
use Rattle.gq_plan_ir.specs.declared.expr.FieldPlaces.{FieldPlaces}
use Rattle.gq_eval_attributes.specs.Attributes.{attribute_at, vertex_value}
use Rattle.gq_eval_attributes.proofs.ListLemmas.{item_there}
use Rattle.gq_eval_attributes.proofs.VertexLemmas.{has_values, place_within}
use Rattle.gq_eval_attributes.specs.Reads.{value_meant, IsReadInt}
use Rattle.gq_eval_attributes.proofs.ReadLemmas.{go, in_the_table, nothing_read, int_there}

-- ---- the meaning, part by part

abbrev Named : Schema → List VertexRow → Reference → ℕ → ℕ → VertexSort → Outcome
Named schema rows f v t sort =
    if is_type f then said sort.name
    else (found (slice_get (map (values_in schema) rows) v) >>= λ vs. value_at (bases_of sort.fields) vs (references.field (OfVertexType t) (names_of sort.fields) f))

abbrev Sorted : Schema → List VertexRow → Reference → ℕ → ℕ → Outcome
Sorted schema rows f v t = found (slice_get (map vertex_sort schema.vertex_types) t) >>= Named schema rows f v t

abbrev Whole : Schema → List VertexRow → Reference → ℕ → Outcome
Whole schema rows f v = found (slice_get (map (λ (r : VertexRow). r.kind) rows) v) >>= Sorted schema rows f v

module _ (schema : Schema) (rows : List VertexRow) (c : FieldPlaces) (v k i : ℕ) (t : VertexType) (there : v < length rows) (kind : k ≡ (vertex_at rows v).kind) (typed : slice_get schema.vertex_types k ≡ Some t) where
  row_there : slice_get rows v ≡ Some (vertex_at rows v)
  row_there = item_there rows v no_vertex there

  values_there : slice_get (map (values_in schema) rows) v ≡ Some (with_shown (vertex_at rows v) (Some t) (map val (vertex_at rows v).attributes))
  values_there =
      slice_get-map (values_in schema) rows v ∙ ap (option_map (values_in schema)) row_there
      ∙ ap (λ o. Some (with_shown (vertex_at rows v) o (map val (vertex_at rows v).attributes))) (ap (slice_get schema.vertex_types) (sym kind) ∙ typed)

  whole_at : Some i ≡ option_flatten (slice_get c.vertices k) → Whole schema rows (field_of (field.Named c)) v ≡ vertex_value t (vertex_at rows v) (Some i)
  whole_at p =
      go (slice_get (map (λ (r : VertexRow). r.kind) rows) v) (Sorted schema rows (field_of (field.Named c)) v) (vertex_at rows v).kind (slice_get-map (λ (r : VertexRow). r.kind) rows v ∙ ap (option_map (λ (r : VertexRow). r.kind)) row_there)
      ∙ ap (Sorted schema rows (field_of (field.Named c)) v) (sym kind)
      ∙ go (slice_get (map vertex_sort schema.vertex_types) k) (Named schema rows (field_of (field.Named c)) v k) (vertex_sort t) (slice_get-map vertex_sort schema.vertex_types k ∙ ap (option_map vertex_sort) typed)
      ∙ go (slice_get (map (values_in schema) rows) v) (λ vs. value_at (bases_of (vertex_sort t).fields) vs (place_in c (OfVertexType k) (names_of (vertex_sort t).fields))) (with_shown (vertex_at rows v) (Some t) (map val (vertex_at rows v).attributes)) values_there
      ∙ ap (vertex_value t (vertex_at rows v)) (in_the_table c.vertices k i (names_of (vertex_sort t).fields) c.name p)

-- ---- in the cases of the code

pub vertex_read : (g : code.Graph) (c : FieldPlaces) (v k i j : ℕ) (t : VertexType) (result : Option ℤ) → v < length g.store.now.vertices → k ≡ (vertex_at g.store.now.vertices v).kind → slice_get g.catalog.now.vertex_types k ≡ Some t → Some i ≡ option_flatten (slice_get c.vertices k)
    → ((row : VertexRow) → vertex_value t row (Some i) ≡ attribute_at t.attributes row.attributes (Some j)) → IfSome result (λ x. value_meant (attribute_at t.attributes (vertex_at g.store.now.vertices v).attributes (Some j)) ≡ Gives (Int x))
    → IsReadInt g (λ world. states.vertex_field world (field_of (field.Named c)) v) result
vertex_read g c v k i j t result there kind typed p same h = record {
  each = λ vertices edges names tuples clock.
      subst (λ o. IfSome result (λ x. value_meant o ≡ Gives (Int x))) (sym (whole_at g.catalog.now g.store.now.vertices c v k i t there kind typed p ∙ same (vertex_at g.store.now.vertices v))) h;
}

pub ruleset vertex_laws = (nothing_read, vertex_read, has_values)

-- ---- a shown id comes first

abbrev shown_fields : VertexType → Bool → Fields
shown_fields t true = (t.id.name, id_base t.id.kind) ∷ attribute_fields t.attributes
shown_fields t false = attribute_fields t.attributes

abbrev shown_values : VertexType → VertexRow → Bool → List Val
shown_values t row b = if b then id_value t.id.kind row.id ∷ map val row.attributes else map val row.attributes

by_flag : (t : VertexType) (row : VertexRow) (b : Bool) (i : ℕ) → t.id.shown ≡ b → vertex_value t row (Some i) ≡ value_at (bases_of (shown_fields t b)) (shown_values t row b) (Some i)
by_flag t row b i e = ap (λ b. value_at (bases_of (shown_fields t b)) (shown_values t row b) (Some i)) e

pub plain_place : (t : VertexType) (i : ℕ) → t.id.shown ≡ false → (row : VertexRow) → vertex_value t row (Some i) ≡ attribute_at t.attributes row.attributes (Some i)
plain_place t i e row = by_flag t row false i e

pub later_place : (t : VertexType) (i j : ℕ) → t.id.shown ≡ true → i ≡ suc j → (row : VertexRow) → vertex_value t row (Some i) ≡ attribute_at t.attributes row.attributes (Some j)
later_place t i j e s row = by_flag t row true i e ∙ ap (λ n. value_at (bases_of (shown_fields t true)) (shown_values t row true) (Some n)) s

pub ruleset place_laws = (plain_place, later_place)

pub ruleset attribute_laws = (int_there, place_within)
