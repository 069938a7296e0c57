-- Sights: what a block can see of a catalog and a store.
use Rattle.std.specs.Prelude.{ℕ, false, List, [], map, None, slice_index_or}
use Rattle.gq_graph.specs.declared.types.EdgeType.{EdgeType}
use Rattle.gq_graph.specs.declared.rows.VertexRow.{VertexRow}
use Rattle.gq_graph.specs.Candidates.{Sight}
use Rattle.gq_graph.specs.Catalog.{Schema}
use Rattle.gq_graph.specs.Edges.{EdgeTable}

-- the type of each vertex
abbrev pub vertex_kinds : List VertexRow → List ℕ
vertex_kinds vertices = map (λ (row : VertexRow). row.kind) vertices

-- the sight of a catalog, of vertices and of edges
abbrev pub sight_of : Schema → List VertexRow → EdgeTable → Sight
sight_of schema vertices edges = record { kinds = vertex_kinds vertices; types = schema.edge_types; edges = edges.rows }

-- the default type, for numbers without one
abbrev pub no_type : EdgeType
no_type = record { name = []; directed = false; from = 0; to = 0; forward = None; reverse = None; discriminators = 0; attributes = [] }

-- an edge type, by its number
abbrev pub type_at : List EdgeType → ℕ → EdgeType
type_at types e = slice_index_or types e no_type
