-- Targets: the types of a catalog by number, and the values of a row of a type: first its ids, then its attributes.
use Rattle.std.specs.Prelude.{ℕ, ◌+◌, ◌<◌, ◌≡◌, false, List, [], length, None, slice_index_or}
use Rattle.gq_graph.specs.declared.types.IdKind.TheVariants as id
use Rattle.gq_graph.specs.declared.types.Attribute.{Attribute}
use Rattle.gq_graph.specs.declared.types.VertexType.{VertexType}
use Rattle.gq_graph.specs.declared.types.EdgeType.{EdgeType}
use Rattle.gq_graph.specs.declared.types.GraphType.{GraphType}
use Rattle.gq_graph.specs.Catalog.{Schema}
use Rattle.gq_load_check.specs.declared.job.Target.{Target}
use Rattle.gq_load_check.specs.declared.job.Target.TheVariants as targets

-- the default for a number that is out of range
abbrev pub no_vertex_type : VertexType
no_vertex_type = record { name = []; id = record { name = []; kind = id.Text; shown = false }; attributes = [] }

abbrev pub no_edge_type : EdgeType
no_edge_type = record { name = []; directed = false; from = 0; to = 0; forward = None; reverse = None; discriminators = 0; attributes = [] }

abbrev pub no_graph : GraphType
no_graph = record { name = []; vertices = []; edges = [] }

-- a vertex type, an edge type and a graph by number
abbrev pub vertex_type_at : Schema → ℕ → VertexType
vertex_type_at schema n = slice_index_or schema.vertex_types n no_vertex_type

abbrev pub edge_type_at : Schema → ℕ → EdgeType
edge_type_at schema n = slice_index_or schema.edge_types n no_edge_type

abbrev pub graph_at : Schema → ℕ → GraphType
graph_at schema n = slice_index_or schema.graphs n no_graph

-- the attributes of a type; an id that is shown as an attribute isn't one of them
abbrev pub attributes_of : Schema → Target → List Attribute
attributes_of schema (targets.Vertex n) = (vertex_type_at schema n).attributes
attributes_of schema (targets.Edge n) = (edge_type_at schema n).attributes

-- the number of ids: a vertex has one, an edge those of its two ends
abbrev pub id_count : Target → ℕ
id_count (targets.Vertex n) = 1
id_count (targets.Edge n) = 2

-- the number of discriminators, which are the first attributes
abbrev pub key_count : Schema → Target → ℕ
key_count schema (targets.Vertex n) = 0
key_count schema (targets.Edge n) = (edge_type_at schema n).discriminators

-- the number of values of a row: its ids and its attributes
abbrev pub value_count : Schema → Target → ℕ
value_count schema t = id_count t + length (attributes_of schema t)

-- the number of leading values that identify the row: its ids and its discriminators
abbrev pub name_count : Schema → Target → ℕ
name_count schema t = id_count t + key_count schema t

-- the type exists and isn't a reverse type
abbrev pub HasTarget : Schema → Target → Type 0
HasTarget schema (targets.Vertex n) = n < length schema.vertex_types
HasTarget schema (targets.Edge n) = (n < length schema.edge_types) × ((edge_type_at schema n).forward ≡ None)
