-- Kept: what the code keeps beside a list of entries: their names, and the place of each name.
use Rattle.std.specs.Prelude.{ℕ, ◌+◌, ◌<◌, ◌≤◌, ◌≡◌, ◌≢◌, List, [], length, map, slice_index_or, MatchOption, Option, Some, None}
use Rattle.std.specs.Option.{ForSome}
use Rattle.std.specs.BTreeMap.{BTreeMap, get_by_text}
use Rattle.std.specs.Prelude.{String}
use Rattle.gq_graph.specs.declared.types.VertexType.{VertexType}
use Rattle.gq_graph.specs.declared.types.EdgeType.{EdgeType}
use Rattle.gq_graph.specs.declared.types.GraphType.{GraphType}
use Rattle.gq_graph.specs.Catalog.{vertex_names, edge_names, graph_names, most_types}

-- a name by its place
abbrev pub name_at : List (List ℕ) → ℕ → List ℕ
name_at names n = slice_index_or names n []

-- the tree maps each name to its place
abbrev pub HavePlaces : {Y : Type 0} → List (List ℕ) → BTreeMap (String Y) ℕ → Type 0
HavePlaces names places = (i : ℕ) → i < length names → get_by_text places (name_at names i) ≡ Some i

-- the name lists are those of the entries, the number of types is within the limit, and edge types have their ends
pub record IsKept (vertices edges graphs : List (List ℕ)) (vertex_types : List VertexType) (edge_types : List EdgeType) (graph_types : List GraphType) : Type 0 where
  pub vertices_named : vertices ≡ vertex_names vertex_types
  pub edges_named : edges ≡ edge_names edge_types
  pub graphs_named : graphs ≡ graph_names graph_types
  pub few_types : length vertex_types + length edge_types ≤ most_types
  pub few_graphs : length graph_types < 4294967296
