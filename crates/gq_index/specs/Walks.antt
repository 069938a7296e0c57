-- Walks: the ways along edges from each vertex, by edge type and by edge.
-- The specification tests every edge under every type from each vertex. The code visits each edge once under each type
-- that has it, and inserts each walk after those of its type in the list of its vertex.
use Rattle.std.specs.Prelude.{ℕ, ◌+◌, ◌-◌, ◌<◌, ◌≡◌, min, filter, ◌&&◌, not, if◌then◌else◌, ◌==◌, List, [], ◌∷◌, length, map, slice_index_or}
use Rattle.std.specs.List.{flat_map}
use Rattle.std.specs.Option.{is_some, unwrap_or, option_to_list}
use Rattle.gq_graph.specs.declared.types.EdgeType.{EdgeType}
use Rattle.gq_graph.specs.declared.rows.EdgeRow.{EdgeRow}
use Rattle.gq_graph.specs.Candidates.{Sight, far_end}
use Rattle.gq_graph.specs.Edges.{edge_at}
use Rattle.gq_index.specs.declared.walks.Traversal.{Traversal}
use Rattle.gq_index.specs.declared.walks.Neighbor.{Neighbor}
use Rattle.gq_index.specs.Places.{below}
use Rattle.gq_index.specs.Sights.{type_at}

-- the default walk, for places without one
abbrev pub no_walk : Traversal
no_walk = record { source = 0; kind = 0; row = 0; target = 0 }

-- a walk, by its place
abbrev pub walk_at : List Traversal → ℕ → Traversal
walk_at walks i = slice_index_or walks i no_walk

-- the walk of a way from a vertex
abbrev pub walked : ℕ → Neighbor → Traversal
walked v way = record { source = v; kind = way.kind; row = way.row; target = way.target }

-- a walk without its source vertex
abbrev pub way_of : Traversal → Neighbor
way_of walk = record { kind = walk.kind; row = walk.row; target = walk.target }

-- the walk from a vertex under a type along an edge, if the edge leads anywhere
abbrev pub walks_along : List EdgeType → ℕ → ℕ → ℕ → EdgeRow → List Traversal
walks_along types v e r edge =
    map (λ far. record { source = v; kind = e; row = r; target = far }) (option_to_list (far_end (e, type_at types e) edge v))

-- the walks from a vertex under a type, by edge
abbrev pub walks_under : List EdgeType → List EdgeRow → ℕ → ℕ → List Traversal
walks_under types edges v e = flat_map (λ r. walks_along types v e r (edge_at edges r)) (below (length edges))

-- all walks from a vertex, by type and by edge
abbrev pub walks_from : List EdgeType → List EdgeRow → ℕ → List Traversal
walks_from types edges v = flat_map (walks_under types edges v) (below (length types))

-- all walks from each vertex
abbrev pub adjacency : Sight → List (List Traversal)
adjacency sight = map (walks_from sight.types sight.edges) (below (length sight.kinds))

-- the walks from a vertex
abbrev pub walks_at : List (List Traversal) → ℕ → List Traversal
walks_at index v = slice_index_or index v []

-- the ways from a vertex
abbrev pub ways_at : List (List Neighbor) → ℕ → List Neighbor
ways_at lists v = slice_index_or lists v []

-- what lists of ways represent: the walks from each vertex
abbrev pub laid_out : List (List Neighbor) → List (List Traversal)
laid_out lists = map (λ v. map (walked v) (ways_at lists v)) (below (length lists))

-- the type that has a type's edges: its forward type, or itself
abbrev pub base_of : EdgeType → ℕ → ℕ
base_of type e = unwrap_or type.forward e

-- the walks along an edge from both of its ends, under a type, if the type has the edge
abbrev pub both_ways : EdgeType → ℕ → ℕ → EdgeRow → List Traversal
both_ways type e r edge =
    if not (edge.kind == base_of type e) then []
    else (if is_some type.forward then back ∷ []
    else (if not type.directed && not (edge.from == edge.to) then out ∷ back ∷ [] else out ∷ []))
  where
    out : Traversal
    out = record { source = edge.from; kind = e; row = r; target = edge.to }

    back : Traversal
    back = record { source = edge.to; kind = e; row = r; target = edge.from }

-- the type of each edge; unknown types share one extra number
abbrev pub edge_kinds : ℕ → List EdgeRow → List ℕ
edge_kinds count edges = map (λ (edge : EdgeRow). min edge.kind count) edges

-- the walks under one type, by edge
unfoldable pub type_walks : EdgeType → ℕ → List EdgeRow → List Traversal
type_walks type e edges = flat_map (λ r. both_ways type e r (edge_at edges r)) (below (length edges))

-- all walks, by type and by edge
unfoldable pub all_walks : List EdgeType → List EdgeRow → List Traversal
all_walks types edges = flat_map (λ e. type_walks (type_at types e) e edges) (below (length types))

-- the walks along the edges after the first ones, under one type
unfoldable pub type_walks_behind : EdgeType → ℕ → ℕ → List EdgeRow → List Traversal
type_walks_behind type e first edges = flat_map (λ r. both_ways type e (first + r) (edge_at edges (first + r))) (below (length edges - first))

-- the walks along the edges after the first ones, by type and by edge
unfoldable pub walks_behind : List EdgeType → ℕ → List EdgeRow → List Traversal
walks_behind types first edges = flat_map (λ e. type_walks_behind (type_at types e) e first edges) (below (length types))

-- walks sorted by type; the order within a type is kept
unfoldable pub by_type : ℕ → List Traversal → List Traversal
by_type count walks = flat_map (λ e. filter (λ (walk : Traversal). walk.kind == e) walks) (below count)

-- the walks from a vertex
abbrev pub taken_from : ℕ → List Traversal → List Traversal
taken_from v walks = filter (λ (walk : Traversal). walk.source == v) walks

-- n lists hold, for each vertex, the walks from it, by type
pub record AreListed (n count : ℕ) (lists : List (List Neighbor)) (walks : List Traversal) : Type 0 where
  pub long : length lists ≡ n
  pub own : (v : ℕ) → v < n → map (walked v) (ways_at lists v) ≡ by_type count (taken_from v walks)
