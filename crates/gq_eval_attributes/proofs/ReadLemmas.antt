-- ReadLemmas: the INT that an attribute is, in the cases of the code.
use Rattle.std.proofs.Common.{◌≡◌, ℕ, ℤ, List, map, Option, Some, None, refl, sym, ap, subst, ◌∙◌}
use Rattle.std.specs.List.{slice_get}
use Rattle.std.specs.Prelude.{if◌then◌else◌, IfSome}
use Rattle.std.specs.Option.{option_map, option_flatten}
use Rattle.std.proofs.lemmas.Option.{slice_get-map}
use Rattle.gq_value.specs.Val.{Val, Int}
use Rattle.gq_value.specs.Views.{val}
use Rattle.gq_value.specs.ViewLaws.{val-Int}
use Rattle.gq_value.specs.AccumViews.{base_of}
use Rattle.gq_graph.specs.declared.types.Attribute.{Attribute}
use Rattle.gq_graph.specs.declared.types.EdgeType.{EdgeType}
use Rattle.gq_graph.specs.declared.rows.EdgeRow.{EdgeRow}
use Rattle.gq_value.specs.declared.value.Value.{Value}
use Rattle.gq_value.specs.declared.value.Value.TheVariants as value
use Rattle.gq_index.specs.declared.store.Graph as code
use Rattle.gq_rules_typing.specs.Sorts.{EdgeSort, bases_of, names_of, edge_sort}
use Rattle.gq_rules_typing.specs.Words.{OfEdgeType}
use Rattle.gq_rules_typing.specs.Statements.{Bytes}
use Rattle.gq_rules_meaning.specs.Answers.{Gives, ◌>>=◌, found}
use Rattle.gq_rules_meaning.specs.Meanings.{Outcome, said}
use Rattle.gq_rules_meaning.specs.Expressions.{World}
use Rattle.gq_rules_meaning.specs.States.{value_at}
use Rattle.gq_rules_meaning.specs.States as states
use Rattle.gq_plan_ir.specs.Reference.{Reference}
use Rattle.gq_plan_ir.specs.References as references
use Rattle.gq_plan_ir.specs.References.{is_type, in_table, place_in}
use Rattle.gq_plan_ir.specs.ExprView.{field_of}
use Rattle.gq_plan_ir.specs.declared.expr.Field.TheVariants as field
use Rattle.gq_plan_ir.specs.declared.expr.FieldPlaces.{FieldPlaces}
use Rattle.gq_eval_attributes.specs.Attributes.{attribute_at, attributes_of}
use Rattle.gq_eval_attributes.proofs.EdgeLemmas.{values_at}
use Rattle.gq_eval_attributes.proofs.VertexLemmas.{attribute_there}
use Rattle.gq_eval_attributes.specs.Reads.{value_meant, IsReadInt}

-- ---- the attribute at a place

pub int_there : (xs : List Attribute) (vs : List Value) (i : ℕ) (a : Attribute) (x : ℤ) → slice_get xs i ≡ Some a → slice_get vs i ≡ Some (value.Int x) → value_meant (attribute_at xs vs (Some i)) ≡ Gives (Int x)
int_there xs vs i a x e f = ap value_meant (attribute_there xs vs i i a (value.Int x) (base_of a.kind) e refl f refl) ∙ ap Gives (val-Int x)

pub ruleset value_laws = (int_there)

-- ---- at the place that the plan's table gives

pub in_the_table : (table : List (Option ℕ)) (t i : ℕ) (names : List Bytes) (name : Bytes) → Some i ≡ option_flatten (slice_get table t) → in_table table t names name ≡ Some i
in_the_table table t i names name e = let f = entry (slice_get table t) e in simp (f) refl
  where
    entry : (o : Option (Option ℕ)) → Some i ≡ option_flatten o → o ≡ Some (Some i)
    entry None e = absurd (cc e)
    entry (Some p) e = ap Some (sym e)

-- ---- edges

pub go : {A : Type 0} (o : Option A) (k : A → Outcome) (a : A) → o ≡ Some a → (found o >>= k) ≡ k a
go o k a e = ap (λ o. found o >>= k) e

abbrev values : List EdgeRow → List (List Val)
values rows = map (λ (r : EdgeRow). map val r.attributes) rows

abbrev Named : List EdgeRow → Reference → ℕ → ℕ → EdgeSort → Outcome
Named rows f r t sort =
    if is_type f then said sort.name
    else (found (slice_get (values rows) r) >>= λ vs. value_at (bases_of sort.fields) vs (references.field (OfEdgeType t) (names_of sort.fields) f))

abbrev Whole : List EdgeType → List EdgeRow → Reference → ℕ → ℕ → Outcome
Whole types rows f r t = found (slice_get (map edge_sort types) t) >>= Named rows f r t

whole_at : (types : List EdgeType) (rows : List EdgeRow) (c : FieldPlaces) (r t i : ℕ) (u : EdgeType) (row : List Value) → slice_get types t ≡ Some u → option_map attributes_of (slice_get rows r) ≡ Some row → Some i ≡ option_flatten (slice_get c.edges t)
    → Whole types rows (field_of (field.Named c)) r t ≡ attribute_at u.attributes row (Some i)
whole_at types rows c r t i u row e f p =
    go (slice_get (map edge_sort types) t) (Named rows (field_of (field.Named c)) r t) (edge_sort u) (slice_get-map edge_sort types t ∙ ap (option_map edge_sort) e)
    ∙ go (slice_get (values rows) r) (λ vs. value_at (bases_of (edge_sort u).fields) vs (place_in c (OfEdgeType t) (names_of (edge_sort u).fields))) (map val row) (values_at rows r (Some row) f)
    ∙ ap (attribute_at u.attributes row) (in_the_table c.edges t i (names_of (edge_sort u).fields) c.name p)

pub nothing_read : (g : code.Graph) (meaning : World Reference → Outcome) → IsReadInt g meaning None
nothing_read g meaning = record { each = λ vertices edges names tuples clock. tt }

pub edge_read : (g : code.Graph) (c : FieldPlaces) (r t i : ℕ) (u : EdgeType) (row : List Value) (result : Option ℤ) → slice_get g.catalog.now.edge_types t ≡ Some u → option_map attributes_of (slice_get g.store.now.edges.rows r) ≡ Some row → Some i ≡ option_flatten (slice_get c.edges t)
    → IfSome result (λ x. value_meant (attribute_at u.attributes row (Some i)) ≡ Gives (Int x)) → IsReadInt g (λ world. states.edge_field world (field_of (field.Named c)) r t) result
edge_read g c r t i u row result e f p h = record { each = λ vertices edges names tuples clock. subst (λ o. IfSome result (λ x. value_meant o ≡ Gives (Int x))) (sym (whole_at g.catalog.now.edge_types g.store.now.edges.rows c r t i u row e f p)) h }

pub ruleset edge_laws = (nothing_read, edge_read)
