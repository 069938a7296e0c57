-- VertexLemmas: the printed form of vertices.
use Rattle.std.proofs.Common.{if◌then◌else◌, ◌≡◌, ℕ, ◌+◌, ◌<◌, ◌≤◌, Bool, true, false, List, [], ◌∷◌, ◌++◌, map, length, get_or, Option, Some, None, Bor, Result, refl, sym, ap, subst, ◌∙◌, arith}
use Rattle.std.specs.List.{slice_get}
use Rattle.std.specs.Option.{option_map, option_copied}
use Rattle.std.specs.Prelude.{codes, MatchOption}
use Rattle.std.proofs.lemmas.List.{length-map}
use Rattle.std.proofs.lemmas.Option.{slice_get-map, slice_get_past}
use Rattle.gq_value.specs.Val.{Val}
use Rattle.gq_value.specs.Views.{val}
use Rattle.gq_value.specs.Accums.{Base}
use Rattle.gq_value.specs.AccumViews.{base_of}
use Rattle.gq_graph.specs.Vertices.{vertex_at}
use Rattle.gq_graph.specs.declared.types.Attribute.{Attribute}
use Rattle.gq_graph.specs.declared.types.IdKind.{IdKind}
use Rattle.gq_graph.specs.declared.types.IdKind.TheVariants as id
use Rattle.gq_graph.specs.declared.types.VertexType.{VertexType}
use Rattle.gq_graph.specs.declared.rows.VertexRow.{VertexRow}
use Rattle.gq_index.specs.Rows.{HaveAttributes, IsId}
use Rattle.gq_value.specs.declared.value.Value.{Value}
use Rattle.gq_value.specs.declared.value.Wrong.{Wrong}
use Rattle.gq_json.specs.declared.out.Out as json
use Rattle.gq_json.specs.declared.out.Out.TheVariants as out
use Rattle.gq_rules_typing.specs.Statements.{Bytes}
use Rattle.gq_rules_typing.specs.Sorts.{Fields, VertexSort, attribute_fields, id_base, vertex_sort}
use Rattle.gq_rules_meaning.specs.Answers.{Answer, Gives, Stuck, ◌>>=◌, found}
use Rattle.gq_rules_meaning.specs.Built.{built_print}
use Rattle.gq_rules_meaning.specs.Calendars.{Calendar}
use Rattle.gq_rules_meaning.specs.Expressions.{World}
use Rattle.gq_rules_meaning.specs.Graphs.{id_value, sort_of_vertex, values_in, with_shown}
use Rattle.gq_rules_meaning.specs.Outs as plain
use Rattle.gq_rules_meaning.specs.Outs.{Out, OutText, out_named}
use Rattle.gq_rules_meaning.specs.Printing.{out_vertex, out_attached}
use Rattle.gq_rules_meaning.specs.States as states
use Rattle.gq_plan_ir.specs.Reference.{Reference}
use Rattle.gq_eval_operand.specs.declared.halt.Halt.{Halt}
use Rattle.gq_eval_operand.specs.Meant.{itself, Tells}
use Rattle.gq_eval_context.specs.Viewed.{Over}
use Rattle.gq_eval_context.specs.Looks.{world_over}
use Rattle.gq_output.specs.Printed.{shown, value_shown, named_shown}
use Rattle.gq_output.specs.Vertices.{HasType, id_shown, vertex_named, described, vertex_shown, whole_shown, attached_shown}
use Rattle.gq_output.proofs.ContentLemmas.{membered, print_joined}
use Rattle.gq_output.proofs.KeyLemmas.{row_there}
use Rattle.gq_output.proofs.NamedLemmas.{NamedFrom, at_get, named_fields, row_field}

-- ---- a vertex with any members

pub vertex_printed : (world : World Reference) (v : ℕ) (attributes : List (Bytes × Out)) → shown (out_vertex world v attributes) ≡ vertex_shown world v (built_print attributes)
vertex_printed world v attributes = by (sort_of_vertex world.graph v)
  where
    with_sort : VertexSort → Answer Wrong Out
    with_sort sort = Gives (plain.OutObject (plain.members ((codes "v_id", OutText (plain.id_of world.graph v)) ∷ (codes "v_type", OutText sort.name) ∷ (codes "attributes", plain.OutObject (plain.members attributes)) ∷ [])))

    by : (p : Option VertexSort) → shown (found p >>= with_sort) ≡ (found p >>= λ (sort : VertexSort). Gives (described (plain.id_of world.graph v) sort.name (built_print attributes)))
    by None = refl
    by (Some sort) = ap (λ ms. Gives (described (plain.id_of world.graph v) sort.name ms)) (membered attributes)

-- ---- the type of a vertex

abbrev sort_at : List VertexSort → Option ℕ → Option VertexSort
sort_at sorts None = None
sort_at sorts (Some t) = slice_get sorts t

sort_is : (clock : Calendar) (s : Over) (v : ℕ) → sort_of_vertex (world_over clock s).graph v ≡ sort_at (map vertex_sort s.schema.vertex_types) (slice_get (map (λ (r : VertexRow). r.kind) s.vertices) v)
sort_is clock s v = refl

-- a vertex that isn't there has no type
pub no_vertex_there : (clock : Calendar) (s : Over) (v : ℕ) → length s.vertices ≤ v → sort_of_vertex (world_over clock s).graph v ≡ None
no_vertex_there clock s v h =
    sort_is clock s v ∙ ap (sort_at (map vertex_sort s.schema.vertex_types)) (slice_get-map (λ (r : VertexRow). r.kind) s.vertices v ∙ ap (option_map (λ (r : VertexRow). r.kind)) (slice_get_past s.vertices v h))

kind_there : (clock : Calendar) (s : Over) (v k : ℕ) → v < length s.vertices → k ≡ (vertex_at s.vertices v).kind
    → sort_of_vertex (world_over clock s).graph v ≡ option_map vertex_sort (slice_get s.schema.vertex_types k)
kind_there clock s v k there kind =
    sort_is clock s v ∙ ap (sort_at (map vertex_sort s.schema.vertex_types)) (slice_get-map (λ (r : VertexRow). r.kind) s.vertices v ∙ ap (option_map (λ (r : VertexRow). r.kind)) (row_there s.vertices v there))
    ∙ slice_get-map vertex_sort s.schema.vertex_types (vertex_at s.vertices v).kind ∙ ap (λ n. option_map vertex_sort (slice_get s.schema.vertex_types n)) (sym kind)

abbrev pub Types : Calendar → Over → ℕ → Option (Bor VertexType) → Type 0
Types clock s v o = MatchOption o (sort_of_vertex (world_over clock s).graph v ≡ None) (λ of. HasType s v of.now)

pub type_told : (clock : Calendar) (s : Over) (v k : ℕ) (o : Option (Bor VertexType)) → HaveAttributes s.schema s.vertices → v < length s.vertices → k ≡ (vertex_at s.vertices v).kind → slice_get s.schema.vertex_types k ≡ option_copied o → Types clock s v o
type_told clock s v k None has there kind e = kind_there clock s v k there kind ∙ ap (option_map vertex_sort) e
type_told clock s v k (Some of) has there kind e =
    let found = ap (slice_get s.schema.vertex_types) (sym kind) ∙ e in
    record { there = there; found = found; values = has.each v of.now there found; id = has.ids v of.now there found }

module _ (clock : Calendar) (s : Over) (v : ℕ) (t : VertexType) (has : HasType s v t) where
  pub sort_there : sort_of_vertex (world_over clock s).graph v ≡ Some (vertex_sort t)
  sort_there = kind_there clock s v (vertex_at s.vertices v).kind has.there refl ∙ ap (option_map vertex_sort) has.found

  values_there : slice_get (world_over clock s).graph.vertex_values v ≡ Some (with_shown (vertex_at s.vertices v) (Some t) (map val (vertex_at s.vertices v).attributes))
  values_there =
      slice_get-map (values_in s.schema) s.vertices v ∙ ap (option_map (values_in s.schema)) (row_there s.vertices v has.there)
      ∙ ap (λ o. Some (with_shown (vertex_at s.vertices v) o (map val (vertex_at s.vertices v).attributes))) has.found

  pub vertex_described : (name kind : Bytes) (attributes : List (Bytes × json.Out)) (o : json.Out) → name ≡ plain.id_of (world_over clock s).graph v → kind ≡ t.name → o ≡ described name kind attributes
      → vertex_shown (world_over clock s) v attributes ≡ Gives o
  vertex_described name kind attributes o e f is =
      ap (λ p. found p >>= λ (sort : VertexSort). Gives (described (plain.id_of (world_over clock s).graph v) sort.name attributes)) sort_there
      ∙ ap (λ n. Gives (described n t.name attributes)) (sym e) ∙ ap (λ k. Gives (described name k attributes)) (sym f) ∙ ap Gives (sym is)

  vertex_whole : (slots : List (states.Slot Reference)) (first all : List (Bytes × json.Out)) → first ≡ vertex_named (world_over clock s) t (vertex_at s.vertices v)
      → all ≡ first ++ attached_shown (world_over clock s) v slots → whole_shown (world_over clock s) slots v ≡ vertex_shown (world_over clock s) v all
  vertex_whole slots first all e f =
      ap (λ p. shown (found p >>= λ (sort : VertexSort). found (slice_get (world_over clock s).graph.vertex_values v) >>= λ vs. out_vertex (world_over clock s) v (out_named (world_over clock s) sort.fields vs ++ out_attached (world_over clock s) v slots))) sort_there
      ∙ ap (λ p. shown (found p >>= λ vs. out_vertex (world_over clock s) v (out_named (world_over clock s) (vertex_sort t).fields vs ++ out_attached (world_over clock s) v slots))) values_there
      ∙ vertex_printed (world_over clock s) v (named ++ attached)
      ∙ ap (vertex_shown (world_over clock s) v) (print_joined named attached ∙ ap (λ ms. ms ++ built_print attached) (sym e) ∙ sym f)
    where
      named : List (Bytes × Out)
      named = out_named (world_over clock s) (vertex_sort t).fields (with_shown (vertex_at s.vertices v) (Some t) (map val (vertex_at s.vertices v).attributes))

      attached : List (Bytes × Out)
      attached = out_attached (world_over clock s) v slots

  pub whole_told : (slots : List (states.Slot Reference)) (first all : List (Bytes × json.Out)) (row : VertexRow) (r : Result json.Out Halt) → row ≡ vertex_at s.vertices v → first ≡ vertex_named (world_over clock s) t row
      → all ≡ first ++ attached_shown (world_over clock s) v slots → Tells itself (vertex_shown (world_over clock s) v all) r → Tells itself (whole_shown (world_over clock s) slots v) r
  whole_told slots first all row r same e f told =
      subst (λ o. Tells (itself {A = json.Out}) o r) (sym (vertex_whole slots first all (e ∙ ap (vertex_named (world_over clock s) t) same) f)) told

-- a vertex without a type isn't printed
module _ (world : World Reference) (v : ℕ) (none : sort_of_vertex world.graph v ≡ None) where
  pub vertex_stuck : (attributes : List (Bytes × json.Out)) → vertex_shown world v attributes ≡ Stuck
  vertex_stuck attributes = ap (λ p. found p >>= λ (sort : VertexSort). Gives (described (plain.id_of world.graph v) sort.name attributes)) none

  pub whole_stuck : (slots : List (states.Slot Reference)) → whole_shown world slots v ≡ Stuck
  whole_stuck slots =
      ap (λ p. shown (found p >>= λ (sort : VertexSort). found (slice_get world.graph.vertex_values v) >>= λ vs. out_vertex world v (out_named world sort.fields vs ++ out_attached world v slots))) none

pub three_put : (a b c d : List (Bytes × json.Out)) (name kind : Bytes) (attributes : List (Bytes × json.Out)) → a ≡ [] → b ≡ a ++ (codes "v_id", out.Text name) ∷ [] → c ≡ b ++ (codes "v_type", out.Text kind) ∷ [] → d ≡ c ++ (codes "attributes", out.Object attributes) ∷ []
    → out.Object d ≡ described name kind attributes
three_put a b c d name kind attributes e f g h =
    ap out.Object (h ∙ ap (λ ms. ms ++ (codes "attributes", out.Object attributes) ∷ []) (g ∙ ap (λ ms. ms ++ (codes "v_type", out.Text kind) ∷ []) (f ∙ ap (λ ms. ms ++ (codes "v_id", out.Text name) ∷ []) e)))

pub ruleset vertex_laws = (vertex_described, vertex_stuck)

-- its id is in stored form
pub id_there : (s : Over) (rows : List VertexRow) (v : ℕ) (t : VertexType) → HasType s v t → rows ≡ s.vertices → IsId t.id.kind (vertex_at rows v).id
id_there s rows v t has same = subst (λ vs. IsId t.id.kind (vertex_at vs v).id) (sym same) has.id

pub ruleset whole_laws = (whole_told, whole_stuck, id_there)

-- ---- attributes

pub attribute_at : (xs : List Attribute) (i : ℕ) (a : Attribute) → slice_get xs i ≡ Some a → slice_get (attribute_fields xs) i ≡ Some (a.name, base_of a.kind)
attribute_at xs i a e = slice_get-map (λ (a : Attribute). (a.name, base_of a.kind)) xs i ∙ ap (option_map (λ (a : Attribute). (a.name, base_of a.kind))) e

pub attribute_next : (world : World Reference) (xs : List Attribute) (row : List Value) (whole done new : List (Bytes × json.Out)) (i : ℕ) (a : Attribute) (v : Value) → NamedFrom world (attribute_fields xs) (map val row) whole done i → i < length xs → a ≡ get_or xs i a
    → slice_get row i ≡ Some v → new ≡ done ++ (a.name, value_shown world (base_of a.kind) (val v)) ∷ [] → NamedFrom world (attribute_fields xs) (map val row) whole new (i + 1)
attribute_next world xs row whole done new i a v inv l e f is = row_field world (attribute_fields xs) row whole done new i a.name (base_of a.kind) v inv (attribute_at xs i a (at_get xs i a l e)) f is

pub attributes_through : (world : World Reference) (xs : List Attribute) (row : List Value) (whole done : List (Bytes × json.Out)) (i : ℕ) → NamedFrom world (attribute_fields xs) (map val row) whole done i → length xs ≤ i → done ≡ whole
attributes_through world xs row whole done i inv l = named_fields world (attribute_fields xs) (map val row) whole done i inv (let m = length-map {B = Bytes × Base} xs (λ (a : Attribute). (a.name, base_of a.kind)) in omega (arith, m, l))

pub ruleset attribute_laws = (attribute_next, attributes_through)

-- an id that is shown is the first of them
id_is : (world : World Reference) (k : IdKind) (s : Bytes) → id_shown k s ≡ value_shown world (id_base k) (id_value k s)
id_is world id.Text s = refl
id_is world id.Int s = refl
id_is world id.UInt s = refl

abbrev fields_by : VertexType → Bool → Fields
fields_by t true = (t.id.name, id_base t.id.kind) ∷ attribute_fields t.attributes
fields_by t false = attribute_fields t.attributes

abbrev values_by : VertexType → VertexRow → Bool → List Val
values_by t row b = if b then id_value t.id.kind row.id ∷ map val row.attributes else map val row.attributes

by_flag : (world : World Reference) (t : VertexType) (row : VertexRow) (b : Bool) → t.id.shown ≡ b → vertex_named world t row ≡ named_shown world (fields_by t b) (values_by t row b)
by_flag world t row b e = ap (λ b. named_shown world (fields_by t b) (values_by t row b)) e

module _ (world : World Reference) (t : VertexType) (row : VertexRow) where
  pub plain_attributes : (none all : List (Bytes × json.Out)) → t.id.shown ≡ false → none ≡ [] → all ≡ none ++ named_shown world (attribute_fields t.attributes) (map val row.attributes) → all ≡ vertex_named world t row
  plain_attributes none all e n h = h ∙ ap (λ ms. ms ++ named_shown world (attribute_fields t.attributes) (map val row.attributes)) n ∙ sym (by_flag world t row false e)

  pub shown_attributes : (none first all : List (Bytes × json.Out)) (s : Bytes) (o : json.Out) → t.id.shown ≡ true → none ≡ [] → s ≡ row.id → o ≡ id_shown t.id.kind s → first ≡ none ++ (t.id.name, o) ∷ []
      → all ≡ first ++ named_shown world (attribute_fields t.attributes) (map val row.attributes) → all ≡ vertex_named world t row
  shown_attributes none first all s o e n same p f h =
      h ∙ ap (λ ms. ms ++ named_shown world (attribute_fields t.attributes) (map val row.attributes)) (f ∙ ap (λ ms. ms ++ (t.id.name, o) ∷ []) n)
      ∙ ap (λ q. (t.id.name, q) ∷ named_shown world (attribute_fields t.attributes) (map val row.attributes)) (p ∙ ap (id_shown t.id.kind) same ∙ id_is world t.id.kind row.id)
      ∙ sym (by_flag world t row true e)

pub ruleset id_first_laws = (plain_attributes, shown_attributes)
