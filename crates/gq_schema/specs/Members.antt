-- Members: the types of a graph. The specification looks up each type of the catalog among the members; the code makes
-- one pass over the members and marks their types.
use Rattle.std.specs.Prelude.{ℕ, Bool, true, false, not, ◌||◌, ◌&&◌, ◌==◌, List, [], length, map, Option, Some, None, find, filter, is_some, slice_index_or, slice_set}
use Rattle.std.specs.List.{list_any, range_with_len}
use Rattle.std.specs.Option.{option_map_or}
use Rattle.gq_graph.specs.declared.types.EdgeType.{EdgeType}
use Rattle.gq_graph.specs.declared.types.GraphType.{GraphType}
use Rattle.gq_graph.specs.Catalog.{Schema, name_place, vertex_names, edge_names, vertex_type_of, edge_type_of}

-- the numbers below n
abbrev pub below : ℕ → List ℕ
below n = range_with_len 0 n

abbrev pub is_number : Option ℕ → ℕ → Bool
is_number None k = false
is_number (Some n) k = n == k

-- whether a member is the k-th name
abbrev pub is_listed : List (List ℕ) → List (List ℕ) → ℕ → Bool
is_listed names members k = list_any (λ member. is_number (name_place names member) k) members

abbrev pub no_edge_type : EdgeType
no_edge_type = record { name = []; directed = false; from = 0; to = 0; forward = None; reverse = None; discriminators = 0; attributes = [] }

abbrev pub edge_type_at : Schema → ℕ → EdgeType
edge_type_at schema k = slice_index_or schema.edge_types k no_edge_type

-- whether a vertex type is a member
abbrev pub has_vertex : Schema → List (List ℕ) → ℕ → Bool
has_vertex schema members k = is_listed (vertex_names schema.vertex_types) members k

-- whether an edge type is named as a member
abbrev pub names_edge : Schema → List (List ℕ) → ℕ → Bool
names_edge schema members k = is_listed (edge_names schema.edge_types) members k

-- whether an edge type is a member: it is named, or its forward or reverse type is
abbrev pub has_edge : Schema → List (List ℕ) → ℕ → Bool
has_edge schema members k =
    names_edge schema members k
    || (option_map_or (names_edge schema members) (edge_type_at schema k).forward false
    || option_map_or (names_edge schema members) (edge_type_at schema k).reverse false)

-- whether both ends of an edge type are members
abbrev pub has_ends : Schema → List (List ℕ) → ℕ → Bool
has_ends schema members k = has_vertex schema members (edge_type_at schema k).from && has_vertex schema members (edge_type_at schema k).to

-- whether a member is a vertex type, or an edge type with both its ends
abbrev pub fits : Schema → List (List ℕ) → List ℕ → Bool
fits schema members member =
    is_some (vertex_type_of schema member) || option_map_or (has_ends schema members) (edge_type_of schema member) false

-- the first member that isn't a type, or is an edge type without both of its ends
abbrev pub misfit : Schema → List (List ℕ) → Option (List ℕ)
misfit schema members = find (λ member. not (fits schema members member)) members

-- the graph of a name and its members, or of all types if no members are given
abbrev pub graph_with : Schema → List ℕ → Option (List (List ℕ)) → GraphType
graph_with schema name None =
    record { name = name; vertices = below (length schema.vertex_types); edges = below (length schema.edge_types) }
graph_with schema name (Some members) =
    record {
      name = name;
      vertices = filter (has_vertex schema members) (below (length schema.vertex_types));
      edges = filter (has_edge schema members) (below (length schema.edge_types));
    }

-- the marks with the mark of that number set, if there is a number
abbrev pub marked_by : List Bool → Option ℕ → List Bool
marked_by marks None = marks
marked_by marks (Some k) = slice_set marks k true

-- which vertex types are members, as marks
abbrev pub vertex_marks : Schema → List (List ℕ) → List Bool
vertex_marks schema members = map (has_vertex schema members) (below (length (vertex_names schema.vertex_types)))

-- which edge types are named as members, as marks
abbrev pub edge_marks : Schema → List (List ℕ) → List Bool
edge_marks schema members = map (names_edge schema members) (below (length (edge_names schema.edge_types)))

abbrev pub is_marked : List Bool → ℕ → Bool
is_marked marks k = slice_index_or marks k false

abbrev pub is_pair_marked : List Bool → Option ℕ → Bool
is_pair_marked marks None = false
is_pair_marked marks (Some k) = is_marked marks k

-- the same as above, read from marks
abbrev pub has_ends_marked : Schema → List Bool → ℕ → Bool
has_ends_marked schema marks k = is_marked marks (edge_type_at schema k).from && is_marked marks (edge_type_at schema k).to

abbrev pub fits_marked : Schema → List Bool → List ℕ → Bool
fits_marked schema marks member =
    is_some (vertex_type_of schema member) || option_map_or (has_ends_marked schema marks) (edge_type_of schema member) false

abbrev pub has_edge_marked : Schema → List Bool → ℕ → Bool
has_edge_marked schema marks k =
    is_marked marks k || (is_pair_marked marks (edge_type_at schema k).forward || is_pair_marked marks (edge_type_at schema k).reverse)
