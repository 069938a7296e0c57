-- Vertices: the output of a vertex, as values of gq_json.
use Rattle.std.specs.Prelude.{◌≡◌, ℕ, ◌*◌, ◌<◌, ◌≤◌, List, [], ◌∷◌, map, length, codes, Option, Some, None, slice_get}
use Rattle.gq_graph.specs.declared.types.IdKind.{IdKind}
use Rattle.gq_graph.specs.declared.types.IdKind.TheVariants as id
use Rattle.gq_graph.specs.declared.types.VertexType.{VertexType}
use Rattle.gq_graph.specs.declared.rows.VertexRow.{VertexRow}
use Rattle.gq_value.specs.declared.value.Wrong.{Wrong}
use Rattle.gq_graph.specs.Vertices.{vertex_at}
use Rattle.gq_index.specs.Rows.{IsId}
use Rattle.gq_value.specs.Views.{val}
use Rattle.gq_json.specs.declared.out.Out as json
use Rattle.gq_json.specs.declared.out.Out.TheVariants as out
use Rattle.gq_rules_typing.specs.Statements.{Bytes}
use Rattle.gq_rules_typing.specs.Sorts.{vertex_sort}
use Rattle.gq_rules_meaning.specs.Answers.{Answer, Gives, ◌>>=◌, found}
use Rattle.gq_rules_meaning.specs.Built.{built_print}
use Rattle.gq_rules_meaning.specs.Expressions.{World}
use Rattle.gq_rules_meaning.specs.Graphs.{integer_in, number_in, sort_of_vertex, with_shown}
use Rattle.gq_rules_meaning.specs.Outs as plain
use Rattle.gq_rules_meaning.specs.Printing.{of_content, out_attached, out_whole_vertex}
use Rattle.gq_rules_meaning.specs.States as states
use Rattle.gq_plan_ir.specs.Reference.{Reference}
use Rattle.gq_frame.specs.declared.slots.Slots.{Slots}
use Rattle.gq_frame.specs.Targets.{number_of}
use Rattle.gq_eval_context.specs.Viewed.{Over}
use Rattle.gq_output.specs.Printed.{shown, named_shown}

-- an id of a kind
abbrev pub id_shown : IdKind → Bytes → json.Out
id_shown id.Text s = out.Text s
id_shown id.Int s = out.Int (integer_in s)
id_shown id.UInt s = out.UInt (number_in s 0)

-- the type of a vertex, which has a value for each of its attributes, and an id in stored form
pub record HasType (s : Over) (v : ℕ) (t : VertexType) : Type 0 where
  pub there : v < length s.vertices
  pub found : slice_get s.schema.vertex_types (vertex_at s.vertices v).kind ≡ Some t
  pub values : length t.attributes ≤ length (vertex_at s.vertices v).attributes
  pub id : IsId t.id.kind (vertex_at s.vertices v).id

-- the attributes of a row of a type
abbrev pub vertex_named : World Reference → VertexType → VertexRow → List (Bytes × json.Out)
vertex_named world t row = named_shown world (vertex_sort t).fields (with_shown row (Some t) (map val row.attributes))

-- an object with an id, a type and attributes
abbrev pub described : Bytes → Bytes → List (Bytes × json.Out) → json.Out
described name kind attributes = out.Object ((codes "v_id", out.Text name) ∷ (codes "v_type", out.Text kind) ∷ (codes "attributes", out.Object attributes) ∷ [])

-- a vertex, with these members as its attributes
abbrev pub vertex_shown : World Reference → ℕ → List (Bytes × json.Out) → Answer Wrong json.Out
vertex_shown world v attributes = found (sort_of_vertex world.graph v) >>= λ sort. Gives (described (plain.id_of world.graph v) sort.name attributes)

-- a whole vertex
abbrev pub whole_shown : World Reference → List (states.Slot Reference) → ℕ → Answer Wrong json.Out
whole_shown world slots v = shown (out_whole_vertex world slots v)

-- the number of the first target of a slot, which leaves room for more slots
pub record IsFirst (slots : Slots) (n first : ℕ) : Type 0 where
  pub is : first ≡ number_of slots n 0
  pub room : first ≤ n * 4294967296

-- the member of a vertex for an accumulator
abbrev pub slot_shown : World Reference → ℕ → Option (states.Slot Reference) → List (Bytes × json.Out)
slot_shown world v None = []
slot_shown world v (Some s) = built_print (of_content world (world.words.said s.name) s.kind s.attached (slice_get s.contents v))

-- and for all of them
abbrev pub attached_shown : World Reference → ℕ → List (states.Slot Reference) → List (Bytes × json.Out)
attached_shown world v slots = built_print (out_attached world v slots)
