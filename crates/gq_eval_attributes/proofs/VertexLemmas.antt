-- VertexLemmas: the field of a vertex, in the cases of the code.
use Rattle.std.proofs.Common.{◌≡◌, ℕ, zero, suc, ◌+◌, ◌-◌, ◌<◌, ◌≤◌, Bool, true, false, List, [], ◌∷◌, map, length, Option, Some, None, Result, Ok, Err, refl, sym, ap, subst, ◌∙◌, arith}
use Rattle.std.specs.List.{slice_get}
use Rattle.std.specs.Prelude.{if◌then◌else◌}
use Rattle.std.specs.Option.{option_map}
use Rattle.std.proofs.lemmas.Option.{slice_get-map, slice_get_past, slice_get_within}
use Rattle.gq_value.specs.Val.{Val}
use Rattle.gq_value.specs.Views.{val}
use Rattle.gq_value.specs.Accums.{Base}
use Rattle.gq_value.specs.AccumViews.{base_of}
use Rattle.gq_graph.specs.Catalog.{Schema}
use Rattle.gq_graph.specs.Vertices.{vertex_at, no_vertex}
use Rattle.gq_graph.specs.declared.types.Attribute.{Attribute}
use Rattle.gq_graph.specs.declared.types.VertexType.{VertexType}
use Rattle.gq_graph.specs.declared.rows.VertexRow.{VertexRow}
use Rattle.gq_value.specs.declared.value.Value.{Value}
use Rattle.gq_index.specs.declared.store.Graph as code
use Rattle.gq_index.specs.Rows.{HaveAttributes, IsId}
use Rattle.gq_rules_typing.specs.Sorts.{Fields, VertexSort, bases_of, names_of, attribute_fields, vertex_sort, id_base}
use Rattle.gq_rules_typing.specs.Words.{OfVertexType}
use Rattle.gq_rules_meaning.specs.Answers.{Gives, Stuck, ◌>>=◌, found}
use Rattle.gq_rules_meaning.specs.Graphs.{id_value, with_shown, values_in}
use Rattle.gq_rules_meaning.specs.Meanings.{Is, Outcome, said}
use Rattle.gq_rules_meaning.specs.States.{value_at}
use Rattle.gq_rules_meaning.specs.States as states
use Rattle.gq_plan_ir.specs.Reference.{Reference}
use Rattle.gq_plan_ir.specs.References as references
use Rattle.gq_plan_ir.specs.References.{is_type, place_in}
use Rattle.gq_plan_ir.specs.ExprView.{field_of}
use Rattle.gq_plan_ir.specs.declared.expr.Field.{Field}
use Rattle.gq_plan_ir.specs.declared.expr.Field.TheVariants as field
use Rattle.gq_plan_ir.specs.declared.expr.FieldPlaces.{FieldPlaces}
use Rattle.gq_eval_operand.specs.declared.seen.Seen.{Seen}
use Rattle.gq_eval_operand.specs.declared.halt.Halt.{Halt}
use Rattle.gq_eval_operand.specs.declared.halt.Halt.TheVariants as halt
use Rattle.gq_eval_operand.specs.Meant.{meant, Tells}
use Rattle.gq_eval_attributes.specs.Attributes.{attribute_at, vertex_value, id_shown}
use Rattle.gq_eval_attributes.specs.Worlds.{InWorld}
use Rattle.gq_eval_attributes.proofs.ListLemmas.{item_there, value_there, no_base_there, no_value_there}

-- ---- the meaning, part by part

go : {A : Type 0} (o : Option A) (k : A → Outcome) (a : A) → o ≡ Some a → (found o >>= k) ≡ k a
go o k a e = ap (λ o. found o >>= k) e

stop : {A : Type 0} (o : Option A) (k : A → Outcome) → o ≡ None → (found o >>= k) ≡ Stuck
stop o k e = ap (λ o. found o >>= k) e

abbrev Named : Schema → List VertexRow → Reference → ℕ → ℕ → VertexSort → Outcome
Named schema rows f v t sort =
    if is_type f then said sort.name
    else (found (slice_get (map (values_in schema) rows) v) >>= λ vs. value_at (bases_of sort.fields) vs (references.field (OfVertexType t) (names_of sort.fields) f))

abbrev Sorted : Schema → List VertexRow → Reference → ℕ → ℕ → Outcome
Sorted schema rows f v t = found (slice_get (map vertex_sort schema.vertex_types) t) >>= Named schema rows f v t

abbrev Whole : Schema → List VertexRow → Reference → ℕ → Outcome
Whole schema rows f v = found (slice_get (map (λ (r : VertexRow). r.kind) rows) v) >>= Sorted schema rows f v

row_there : (rows : List VertexRow) (v : ℕ) → v < length rows → slice_get rows v ≡ Some (vertex_at rows v)
row_there rows v h = item_there rows v no_vertex h

kind_there : (rows : List VertexRow) (v : ℕ) → v < length rows → slice_get (map (λ (r : VertexRow). r.kind) rows) v ≡ Some (vertex_at rows v).kind
kind_there rows v h = slice_get-map (λ (r : VertexRow). r.kind) rows v ∙ ap (option_map (λ (r : VertexRow). r.kind)) (row_there rows v h)

whole_gone : (schema : Schema) (rows : List VertexRow) (f : Reference) (v : ℕ) → length rows ≤ v → Whole schema rows f v ≡ Stuck
whole_gone schema rows f v h = stop (slice_get (map (λ (r : VertexRow). r.kind) rows) v) (Sorted schema rows f v) (slice_get-map (λ (r : VertexRow). r.kind) rows v ∙ ap (option_map (λ (r : VertexRow). r.kind)) (slice_get_past rows v h))

module _ (schema : Schema) (rows : List VertexRow) (f : Reference) (v k : ℕ) (there : v < length rows) (kind : k ≡ (vertex_at rows v).kind) where
  whole_sorted : Whole schema rows f v ≡ Sorted schema rows f v k
  whole_sorted = go (slice_get (map (λ (r : VertexRow). r.kind) rows) v) (Sorted schema rows f v) (vertex_at rows v).kind (kind_there rows v there) ∙ ap (Sorted schema rows f v) (sym kind)

  whole_untyped : slice_get schema.vertex_types k ≡ None → Whole schema rows f v ≡ Stuck
  whole_untyped e = whole_sorted ∙ stop (slice_get (map vertex_sort schema.vertex_types) k) (Named schema rows f v k) (slice_get-map vertex_sort schema.vertex_types k ∙ ap (option_map vertex_sort) e)

  whole_typed : (t : VertexType) → slice_get schema.vertex_types k ≡ Some t → Whole schema rows f v ≡ Named schema rows f v k (vertex_sort t)
  whole_typed t e = whole_sorted ∙ go (slice_get (map vertex_sort schema.vertex_types) k) (Named schema rows f v k) (vertex_sort t) (slice_get-map vertex_sort schema.vertex_types k ∙ ap (option_map vertex_sort) e)

  values_there : (t : VertexType) → slice_get schema.vertex_types k ≡ Some t → slice_get (map (values_in schema) rows) v ≡ Some (with_shown (vertex_at rows v) (Some t) (map val (vertex_at rows v).attributes))
  values_there t e =
      slice_get-map (values_in schema) rows v ∙ ap (option_map (values_in schema)) (row_there rows v there)
      ∙ ap (λ o. Some (with_shown (vertex_at rows v) o (map val (vertex_at rows v).attributes))) (ap (slice_get schema.vertex_types) (sym kind) ∙ e)

named_value : (schema : Schema) (rows : List VertexRow) (c : FieldPlaces) (v k : ℕ) → v < length rows → k ≡ (vertex_at rows v).kind → (t : VertexType) → slice_get schema.vertex_types k ≡ Some t
    → Whole schema rows (field_of (field.Named c)) v ≡ vertex_value t (vertex_at rows v) (place_in c (OfVertexType k) (names_of (vertex_sort t).fields))
named_value schema rows c v k there kind t e =
    whole_typed schema rows (field_of (field.Named c)) v k there kind t e
    ∙ go (slice_get (map (values_in schema) rows) v) (λ vs. value_at (bases_of (vertex_sort t).fields) vs (place_in c (OfVertexType k) (names_of (vertex_sort t).fields))) (with_shown (vertex_at rows v) (Some t) (map val (vertex_at rows v).attributes)) (values_there schema rows (field_of (field.Named c)) v k there kind t e)

-- ---- in the cases of the code

abbrev Told : code.Graph → Field → ℕ → Result Seen Halt → Type 0
Told g f v r = InWorld g (λ world. states.vertex_field world (field_of f) v) r

told : (g : code.Graph) (f : Field) (v : ℕ) (r : Result Seen Halt) → Tells meant (Whole g.catalog.now g.store.now.vertices (field_of f) v) r → Told g f v r
told g f v r h = record { each = λ vertices edges names tuples clock. h }

pub vertex_gone : (g : code.Graph) (f : Field) (v : ℕ) → length g.store.now.vertices ≤ v → InWorld g (λ world. states.vertex_field world (field_of f) v) (Err halt.Stuck)
vertex_gone g f v h = told g f v (Err halt.Stuck) (whole_gone g.catalog.now g.store.now.vertices (field_of f) v h)

pub vertex_untyped : (g : code.Graph) (f : Field) (v k : ℕ) → v < length g.store.now.vertices → k ≡ (vertex_at g.store.now.vertices v).kind → slice_get g.catalog.now.vertex_types k ≡ None → InWorld g (λ world. states.vertex_field world (field_of f) v) (Err halt.Stuck)
vertex_untyped g f v k there kind e = told g f v (Err halt.Stuck) (whole_untyped g.catalog.now g.store.now.vertices (field_of f) v k there kind e)

pub vertex_type_said : (g : code.Graph) (v k : ℕ) (t : VertexType) (b : Seen) → v < length g.store.now.vertices → k ≡ (vertex_at g.store.now.vertices v).kind → slice_get g.catalog.now.vertex_types k ≡ Some t
    → said t.name ≡ Gives (meant b) → InWorld g (λ world. states.vertex_field world (field_of field.Type) v) (Ok b)
vertex_type_said g v k t b there kind e s = told g field.Type v (Ok b) (whole_typed g.catalog.now g.store.now.vertices (field_of field.Type) v k there kind t e ∙ s)

pub vertex_no_place : (g : code.Graph) (c : FieldPlaces) (v k : ℕ) (t : VertexType) → v < length g.store.now.vertices → k ≡ (vertex_at g.store.now.vertices v).kind → slice_get g.catalog.now.vertex_types k ≡ Some t
    → None ≡ place_in c (OfVertexType k) (names_of (vertex_sort t).fields) → InWorld g (λ world. states.vertex_field world (field_of (field.Named c)) v) (Err halt.Stuck)
vertex_no_place g c v k t there kind e p = told g (field.Named c) v (Err halt.Stuck) (named_value g.catalog.now g.store.now.vertices c v k there kind t e ∙ ap (vertex_value t (vertex_at g.store.now.vertices v)) (sym p))

pub vertex_at_place : (g : code.Graph) (c : FieldPlaces) (v k i : ℕ) (t : VertexType) (r : Result Seen Halt) → v < length g.store.now.vertices → k ≡ (vertex_at g.store.now.vertices v).kind → slice_get g.catalog.now.vertex_types k ≡ Some t
    → Some i ≡ place_in c (OfVertexType k) (names_of (vertex_sort t).fields) → Tells meant (vertex_value t (vertex_at g.store.now.vertices v) (Some i)) r → InWorld g (λ world. states.vertex_field world (field_of (field.Named c)) v) r
vertex_at_place g c v k i t r there kind e p h = told g (field.Named c) v r (subst (λ o. Tells meant o r) (sym (named_value g.catalog.now g.store.now.vertices c v k there kind t e ∙ ap (vertex_value t (vertex_at g.store.now.vertices v)) (sym p))) h)

pub has_values : (schema : Schema) (rows : List VertexRow) (v k : ℕ) (t : VertexType) → HaveAttributes schema rows → v < length rows → k ≡ (vertex_at rows v).kind → slice_get schema.vertex_types k ≡ Some t → length t.attributes ≤ length (vertex_at rows v).attributes
has_values schema rows v k t h there kind e = h.each v t there (ap (slice_get schema.vertex_types) (sym kind) ∙ e)

pub has_id : (schema : Schema) (rows : List VertexRow) (v k : ℕ) (t : VertexType) → HaveAttributes schema rows → v < length rows → k ≡ (vertex_at rows v).kind → slice_get schema.vertex_types k ≡ Some t → IsId t.id.kind (vertex_at rows v).id
has_id schema rows v k t h there kind e = h.ids v t there (ap (slice_get schema.vertex_types) (sym kind) ∙ e)

pub ruleset field_laws = (vertex_gone, vertex_untyped, vertex_type_said, vertex_no_place, vertex_at_place, has_values, has_id)

-- ---- a shown id comes first

abbrev shown_fields : VertexType → Bool → Fields
shown_fields t true = (t.id.name, id_base t.id.kind) ∷ attribute_fields t.attributes
shown_fields t false = attribute_fields t.attributes

abbrev shown_values : VertexType → VertexRow → Bool → List Val
shown_values t row b = if b then id_value t.id.kind row.id ∷ map val row.attributes else map val row.attributes

by_flag : (t : VertexType) (row : VertexRow) (b : Bool) (place : Option ℕ) → t.id.shown ≡ b → vertex_value t row place ≡ value_at (bases_of (shown_fields t b)) (shown_values t row b) place
by_flag t row b place e = ap (λ b. value_at (bases_of (shown_fields t b)) (shown_values t row b) place) e

pub plain_value : (t : VertexType) (row : VertexRow) (i : ℕ) (r : Result Seen Halt) → t.id.shown ≡ false → Tells meant (attribute_at t.attributes row.attributes (Some i)) r → Tells meant (vertex_value t row (Some i)) r
plain_value t row i r e h = subst (λ o. Tells meant o r) (sym (by_flag t row false (Some i) e)) h

pub first_value : (t : VertexType) (row : VertexRow) (i : ℕ) (id : List ℕ) (r : Result Seen Halt) → t.id.shown ≡ true → i ≡ 0 → id ≡ row.id → Tells meant (id_shown t.id id) r → Tells meant (vertex_value t row (Some i)) r
first_value t row i id r e z s h = subst (λ o. Tells meant o r) (sym (by_flag t row true (Some i) e ∙ ap (λ n. value_at (bases_of (shown_fields t true)) (shown_values t row true) (Some n)) z ∙ ap (λ s. Gives (Is (id_base t.id.kind) (id_value t.id.kind s))) (sym s))) h

pub later_value : (t : VertexType) (row : VertexRow) (i j : ℕ) (r : Result Seen Halt) → t.id.shown ≡ true → j ≡ i - 1 → (i ≡ 0 → ⊥) → Tells meant (attribute_at t.attributes row.attributes (Some j)) r → Tells meant (vertex_value t row (Some i)) r
later_value t row zero j r e d z h = absurd (z refl)
later_value t row (suc i) j r e d z h = subst (λ o. Tells meant o r) (sym (by_flag t row true (Some (suc i)) e ∙ ap (λ n. attribute_at t.attributes row.attributes (Some n)) (let f : i ≡ j = omega (arith, d) in f))) h

pub ruleset value_laws = (plain_value, first_value, later_value)

-- ---- attributes

attribute_base : (xs : List Attribute) (i : ℕ) → slice_get (bases_of (attribute_fields xs)) i ≡ option_map (λ (a : Attribute). base_of a.kind) (slice_get xs i)
attribute_base [] i = refl
attribute_base (a ∷ xs) zero = refl
attribute_base (a ∷ xs) (suc i) = attribute_base xs i

pub no_attribute : (xs : List Attribute) (vs : List Value) (i : ℕ) → slice_get xs i ≡ None → attribute_at xs vs (Some i) ≡ Stuck
no_attribute xs vs i e = no_base_there (bases_of (attribute_fields xs)) (map val vs) i (attribute_base xs i ∙ ap (option_map (λ (a : Attribute). base_of a.kind)) e)

pub no_value : (xs : List Attribute) (vs : List Value) (i : ℕ) (a : Attribute) → slice_get xs i ≡ Some a → slice_get vs i ≡ None → attribute_at xs vs (Some i) ≡ Stuck
no_value xs vs i a e f = no_value_there (bases_of (attribute_fields xs)) (map val vs) i (base_of a.kind) (attribute_base xs i ∙ ap (option_map (λ (a : Attribute). base_of a.kind)) e) (slice_get-map val vs i ∙ ap (option_map val) f)

pub attribute_there : (xs : List Attribute) (vs : List Value) (i j : ℕ) (a : Attribute) (v : Value) (b : Base) → slice_get xs i ≡ Some a → b ≡ base_of a.kind → slice_get vs j ≡ Some v → j ≡ i → attribute_at xs vs (Some i) ≡ Gives (Is b (val v))
attribute_there xs vs i j a v b e k f same =
    value_there (bases_of (attribute_fields xs)) (map val vs) i b (val v)
    (attribute_base xs i ∙ ap (option_map (λ (a : Attribute). base_of a.kind)) e ∙ ap Some (sym k))
    (slice_get-map val vs i ∙ ap (option_map val) (ap (slice_get vs) (sym same) ∙ f))

pub place_within : (xs : List Attribute) (i j n : ℕ) (a : Attribute) → slice_get xs i ≡ Some a → j ≡ i → length xs ≤ n → j < n
place_within xs i j n a e same h = let w = slice_get_within xs i a e in omega (arith, w, same, h)

pub ruleset attribute_laws = (no_attribute, attribute_there, place_within)
