-- Joined: rows as two lists, one of vertices without attributes and one of their attributes.
use Rattle.std.specs.Prelude.{ℕ, List, [], ◌∷◌}
use Rattle.gq_graph.specs.declared.rows.VertexRow.{VertexRow}
use Rattle.gq_value.specs.declared.value.Value.{Value}

-- a vertex without attributes
abbrev pub head_of : ℕ → List ℕ → VertexRow
head_of kind id = record { kind = kind; id = id; attributes = [] }

-- each vertex with the attributes at its place
abbrev pub joined : List VertexRow → List (List Value) → List VertexRow
joined [] rows = []
joined (head ∷ heads) [] = []
joined (head ∷ heads) (row ∷ rows) = record head { attributes = row } ∷ joined heads rows
