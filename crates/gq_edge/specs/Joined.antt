-- Joined: rows as two lists, one of edges without attributes and one of their attributes.
use Rattle.std.specs.Prelude.{List, [], ◌∷◌}
use Rattle.gq_graph.specs.declared.rows.EdgeRow.{EdgeRow}
use Rattle.gq_value.specs.declared.value.Value.{Value}

-- each edge with the attributes at its place
abbrev pub joined : List EdgeRow → List (List Value) → List EdgeRow
joined [] rows = []
joined (edge ∷ edges) [] = []
joined (edge ∷ edges) (row ∷ rows) = record edge { attributes = row } ∷ joined edges rows
