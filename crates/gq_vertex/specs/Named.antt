-- Named: what the table of vertices keeps beside its rows: the index that finds each row by its name.
use Rattle.std.specs.Prelude.{ℕ, ◌≡◌, ◌<◌, ◌≤◌, List, length, map}
use Rattle.gq_graph.specs.declared.rows.VertexRow.{VertexRow}
use Rattle.gq_graph.specs.Vertices.{VerticesApart, vertex_at, vertex_number, most_vertices}
use Rattle.gq_vertex.specs.declared.index.Index.{Index}
use Rattle.gq_vertex.specs.declared.index.Index.TheVariants.{Hashed, Sorted}
use Rattle.gq_vertex.specs.Keyed.{vertex_key, IsBytes}
use Rattle.gq_vertex.specs.Sorted.{Names, number_of}

-- the key of a row's name
abbrev pub row_key : VertexRow → ℕ
row_key row = vertex_key row.kind row.id

-- the tree maps the name of each row to its number, and has no other names
abbrev pub IsSorted : List VertexRow → Names → Type 0
IsSorted rows names = (kind : ℕ) (id : List ℕ) → number_of names kind id ≡ vertex_number rows kind id

-- the index finds these rows: it has their keys, or the tree of their names
abbrev pub Finds : List VertexRow → Index → Type 0
Finds rows (Hashed keys) = keys ≡ map row_key rows
Finds rows (Sorted names) = IsSorted rows names

-- the index finds the rows, no two rows have one name, and their number is within the limit
pub record AreNamed (rows : List VertexRow) (index : Index) : Type 0 where
  pub finds : Finds rows index
  pub bytes : (k : ℕ) → k < length rows → IsBytes (vertex_at rows k).id
  pub apart : VerticesApart rows
  pub few : length rows ≤ most_vertices
