-- Catalog: vertex types, edge types and graphs, as lists: look-ups by name, and what a declaration appends. The number of
-- each is its place in its list. Here a name is searched for from the first entry on. The code searches a tree
-- of names.
use Rattle.std.specs.Prelude.{ℕ, ◌+◌, Bool, List, [], ◌∷◌, ◌++◌, length, map, Option, Some, None, is_some, unwrap_or, bytes_eq, position}
use Rattle.gq_graph.specs.declared.types.VertexType.{VertexType}
use Rattle.gq_graph.specs.declared.types.EdgeType.{EdgeType}
use Rattle.gq_graph.specs.declared.types.GraphType.{GraphType}
use Rattle.gq_graph.specs.declared.types.IdShape.{IdShape}
use Rattle.gq_graph.specs.declared.types.Attribute.{Attribute}
use Rattle.gq_graph.specs.Defaults.{settled}

-- everything created so far
pub record Schema : Type 0 where
  pub vertex_types : List VertexType
  pub edge_types : List EdgeType
  pub graphs : List GraphType

-- the place of a name among names
abbrev pub name_place : List (List ℕ) → List ℕ → Option ℕ
name_place names name = position (bytes_eq name) names

-- whether a name is among names
abbrev pub stands : List (List ℕ) → List ℕ → Bool
stands names name = is_some (name_place names name)

abbrev pub vertex_names : List VertexType → List (List ℕ)
vertex_names types = map (λ (t : VertexType). t.name) types

abbrev pub edge_names : List EdgeType → List (List ℕ)
edge_names types = map (λ (t : EdgeType). t.name) types

abbrev pub graph_names : List GraphType → List (List ℕ)
graph_names graphs = map (λ (g : GraphType). g.name) graphs

-- the number of the vertex type of a name
abbrev pub vertex_type_of : Schema → List ℕ → Option ℕ
vertex_type_of schema name = name_place (vertex_names schema.vertex_types) name

-- the number of the edge type of a name
abbrev pub edge_type_of : Schema → List ℕ → Option ℕ
edge_type_of schema name = name_place (edge_names schema.edge_types) name

-- the number of the graph of a name
abbrev pub graph_of : Schema → List ℕ → Option ℕ
graph_of schema name = name_place (graph_names schema.graphs) name

-- how many types there are, reverse types counted
abbrev pub type_count : Schema → ℕ
type_count schema = length schema.vertex_types + length schema.edge_types

-- one vertex type more
abbrev pub with_vertex_type : Schema → List ℕ → IdShape → List Attribute → Schema
with_vertex_type schema name id attributes = record schema {
  vertex_types = schema.vertex_types ++ record { name = name; id = id; attributes = map settled attributes } ∷ [];
}

-- the number of an end that is there
abbrev pub end_of : Schema → List ℕ → ℕ
end_of schema name = unwrap_or (vertex_type_of schema name) 0

-- an edge type, with the number of its forward or reverse type
abbrev pub edge_type_with : List ℕ → Bool → ℕ → ℕ → Option ℕ → Option ℕ → ℕ → List Attribute → EdgeType
edge_type_with name directed from to forward reverse key attributes =
    record {
      name = name;
      directed = directed;
      from = from;
      to = to;
      forward = forward;
      reverse = reverse;
      discriminators = key;
      attributes = map settled attributes;
    }

-- the edge types of one declaration: the forward type, and directly after it the reverse type, with its ends exchanged
abbrev pub edge_types_of : ℕ → List ℕ → Bool → ℕ → ℕ → Option (List ℕ) → ℕ → List Attribute → List EdgeType
edge_types_of number name directed from to None key attributes =
    edge_type_with name directed from to None None key attributes ∷ []
edge_types_of number name directed from to (Some reverse) key attributes =
    edge_type_with name directed from to None (Some (number + 1)) key attributes
    ∷ edge_type_with reverse directed to from (Some number) None key attributes ∷ []

-- more edge types
abbrev pub with_edge_types : Schema → List EdgeType → Schema
with_edge_types schema types = record schema { edge_types = schema.edge_types ++ types }

-- one graph more
abbrev pub with_graph : Schema → GraphType → Schema
with_graph schema graph = record schema { graphs = schema.graphs ++ graph ∷ [] }

-- how many types there may be
abbrev pub most_types : ℕ
most_types = 256
