-- Rows: when the rows of a store are well-formed.
-- A vertex has a value for each attribute of its type and an id in stored form, and the ends of an edge are vertices of
-- the store.
use Rattle.std.specs.Prelude.{◌≡◌, ◌≢◌, ℕ, ◌<◌, ◌≤◌, ℤ, pos, true, List, [], length, slice_get, Some}
use Rattle.std.specs.Fmt.{decimal, signed_decimal}
use Rattle.gq_value.specs.declared.kind.Number.TheVariants as number
use Rattle.gq_value.specs.Arithmetic.{is_within}
use Rattle.gq_graph.specs.Catalog.{Schema}
use Rattle.gq_graph.specs.Vertices.{vertex_at}
use Rattle.gq_graph.specs.declared.types.IdKind.{IdKind}
use Rattle.gq_graph.specs.declared.types.IdKind.TheVariants as id
use Rattle.gq_graph.specs.declared.types.VertexType.{VertexType}
use Rattle.gq_graph.specs.declared.rows.VertexRow.{VertexRow}
use Rattle.gq_graph.specs.declared.rows.EdgeRow.{EdgeRow}

-- an id in stored form: a text that isn't empty, or the shortest decimal text of a number
abbrev pub IsId : IdKind → List ℕ → Type 0
IsId id.Text text = text ≢ []
IsId id.Int text = (z : ℤ) × (is_within number.Int z ≡ true) × (text ≡ signed_decimal z)
IsId id.UInt text = (n : ℕ) × (is_within number.UInt (pos n) ≡ true) × (text ≡ decimal n)

-- each vertex of the store has a value for each attribute of its type, and an id in the stored form of its type
pub record HaveAttributes (schema : Schema) (rows : List VertexRow) : Type 0 where
  pub each : (v : ℕ) (t : VertexType) → v < length rows → slice_get schema.vertex_types (vertex_at rows v).kind ≡ Some t → length t.attributes ≤ length (vertex_at rows v).attributes
  pub ids : (v : ℕ) (t : VertexType) → v < length rows → slice_get schema.vertex_types (vertex_at rows v).kind ≡ Some t → IsId t.id.kind (vertex_at rows v).id

-- the ends of edges are vertices of the store
pub record HaveEnds (vertices : List VertexRow) (edges : List EdgeRow) : Type 0 where
  pub from : (r : ℕ) (e : EdgeRow) → slice_get edges r ≡ Some e → e.from < length vertices
  pub to : (r : ℕ) (e : EdgeRow) → slice_get edges r ≡ Some e → e.to < length vertices
