-- Ends: an edge with its two ends, as the sequence of upserts that it consists of.
use Rattle.std.specs.Prelude.{◌≡◌, ℕ, List, [], ◌∷◌, Some}
use Rattle.gq_graph.specs.declared.rows.VertexRow.{VertexRow}
use Rattle.gq_graph.specs.declared.rows.Naming.{Naming}
use Rattle.gq_graph.specs.Vertices.{vertex_number}
use Rattle.gq_value.specs.declared.value.Value.{Value}
use Rattle.gq_index.specs.declared.put.EndpointRef.{EndpointRef as PutEnd}
use Rattle.gq_index.specs.Steps.{Step, End, Edge, name_of}

-- the row of an end that doesn't exist yet
abbrev pub row_of : PutEnd → VertexRow
row_of end = record { kind = end.kind; id = end.id.now; attributes = end.missing.now }

-- first its FROM vertex, then its TO vertex, then the edge
abbrev pub edge_steps : Naming → VertexRow → VertexRow → List Value → List Step
edge_steps naming from to attributes = End from ∷ End to ∷ Edge naming (name_of from) (name_of to) attributes ∷ []

-- the given number of an end, if it has one, is that of its vertex
abbrev pub IsAt : List VertexRow → PutEnd → Type 0
IsAt rows end = (n : ℕ) → end.at ≡ Some n → vertex_number rows end.kind end.id.now ≡ Some n
