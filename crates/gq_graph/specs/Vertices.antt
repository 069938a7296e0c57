-- Vertices: the vertices of a store, as a list of rows: a vertex's number by its name, and what an upsert does. A vertex's
-- number is its place. Here a vertex is searched for from the first row on. The code follows chains of rows whose names
-- have one hash.
use Rattle.std.specs.Prelude.{ℕ, ◌<◌, ◌≡◌, ◌≢◌, ◌==◌, ◌&&◌, Bool, List, [], ◌∷◌, ◌++◌, length, Option, Some, None, bytes_eq, position, slice_index_or, slice_set}
use Rattle.gq_graph.specs.declared.rows.VertexRow.{VertexRow}

-- whether a row is the vertex of that type and id
abbrev pub is_vertex : ℕ → List ℕ → VertexRow → Bool
is_vertex kind id row = (row.kind == kind) && bytes_eq id row.id

-- the number of the vertex of that type and id
abbrev pub vertex_number : List VertexRow → ℕ → List ℕ → Option ℕ
vertex_number rows kind id = position (is_vertex kind id) rows

-- replaces the row with that number, or else appends the row
abbrev pub vertex_put : List VertexRow → VertexRow → Option ℕ → List VertexRow
vertex_put rows row (Some n) = slice_set rows n row
vertex_put rows row None = rows ++ row ∷ []

-- an upsert: the vertex of the row's name gets the row's attributes; with a new name it is appended
abbrev pub upsert_vertex : List VertexRow → VertexRow → List VertexRow
upsert_vertex rows row = vertex_put rows row (vertex_number rows row.kind row.id)

-- no row
abbrev pub no_vertex : VertexRow
no_vertex = record { kind = 0; id = []; attributes = [] }

-- the row with a number
abbrev pub vertex_at : List VertexRow → ℕ → VertexRow
vertex_at rows n = slice_index_or rows n no_vertex

-- each name has one row at most
abbrev pub VerticesApart : List VertexRow → Type 0
VerticesApart rows = (i j : ℕ) → i < j → j < length rows
    → (vertex_at rows i).kind ≡ (vertex_at rows j).kind → (vertex_at rows i).id ≢ (vertex_at rows j).id

-- how many vertices a store holds at most
abbrev pub most_vertices : ℕ
most_vertices = 4194304
