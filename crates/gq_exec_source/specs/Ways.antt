-- Ways: the walks of a step along all rows, by edge type, by row and by way, each from the vertex that it starts from.
-- The definition of bindings looks from one vertex along each row; here each row gives its start vertices.
use Rattle.std.specs.Prelude.{ℕ, ◌==◌, if◌then◌else◌, List, [], ◌∷◌, length}
use Rattle.std.specs.List.{flat_map}
use Rattle.gq_graph.specs.declared.types.EdgeType.{EdgeType}
use Rattle.gq_graph.specs.declared.rows.EdgeRow.{EdgeRow}
use Rattle.gq_graph.specs.Edges.{edge_at}
use Rattle.gq_index.specs.declared.walks.Traversal.{Traversal}
use Rattle.gq_index.specs.Places.{below}
use Rattle.gq_index.specs.Sights.{type_at}
use Rattle.gq_index.specs.Walks.{base_of}
use Rattle.gq_rules_typing.specs.Way.{Way}
use Rattle.gq_rules_typing.specs.Way.TheVariants as way
use Rattle.gq_rules_typing.specs.Patterns as patterns
use Rattle.gq_rules_meaning.specs.Paths.{ends_under, ways_of}
use Rattle.gq_exec_source.specs.declared.path_types.PathStep.{PathStep}

-- a step as the definitions have it
abbrev pub step_of : PathStep → patterns.PathStep
step_of step = record { edges = step.edges; targets = step.targets }

-- the walk along a row under a type, from one end to the other
abbrev pub walk_between : ℕ → ℕ → ℕ → ℕ → Traversal
walk_between e r near far = record { source = near; kind = e; row = r; target = far }

-- the walks along a row in a way, from each end that it is walked from; a row with both ends at one vertex is walked once
abbrev pub walks_in : Way → ℕ → ℕ → ℕ × ℕ → List Traversal
walks_in way.Forward e r ends = walk_between e r ends.0 ends.1 ∷ []
walks_in way.Backward e r ends = walk_between e r ends.1 ends.0 ∷ []
walks_in way.Both e r ends =
    if ends.0 == ends.1 then walk_between e r ends.0 ends.1 ∷ [] else walk_between e r ends.0 ends.1 ∷ walk_between e r ends.1 ends.0 ∷ []

-- the walks along a row under a type in a way, if the type has the row
abbrev pub row_walks : EdgeType → ℕ → ℕ → EdgeRow → Way → List Traversal
row_walks type e r row w = if row.kind == base_of type e then walks_in w e r (ends_under type row) else []

-- the walks along a row under a type, way by way
abbrev pub walks_along : List Way → EdgeType → ℕ → ℕ → EdgeRow → List Traversal
walks_along ways type e r row = flat_map (row_walks type e r row) ways

-- the walks of a step under a type, row by row
unfoldable pub type_walks : List Way → EdgeType → ℕ → List EdgeRow → List Traversal
type_walks ways type e rows = flat_map (λ r. walks_along ways type e r (edge_at rows r)) (below (length rows))

-- all walks of a step, type by type
unfoldable pub step_walks : patterns.PathStep → List EdgeType → List EdgeRow → List Traversal
step_walks step types rows = flat_map (λ e. type_walks (ways_of step e) (type_at types e) e rows) (below (length types))
