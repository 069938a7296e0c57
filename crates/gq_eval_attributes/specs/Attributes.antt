-- Attributes: the value at a place of a row, with the type of the place. A shown id comes before the attributes.
use Rattle.std.specs.Prelude.{ℕ, List, map, Option, Some}
use Rattle.gq_graph.specs.declared.types.Attribute.{Attribute}
use Rattle.gq_graph.specs.declared.types.IdShape.{IdShape}
use Rattle.gq_graph.specs.declared.types.VertexType.{VertexType}
use Rattle.gq_graph.specs.declared.rows.EdgeRow.{EdgeRow}
use Rattle.gq_graph.specs.declared.rows.VertexRow.{VertexRow}
use Rattle.gq_value.specs.declared.value.Value.{Value}
use Rattle.gq_value.specs.Views.{val}
use Rattle.gq_rules_typing.specs.Sorts.{id_base, attribute_fields, bases_of, vertex_sort}
use Rattle.gq_rules_meaning.specs.Answers.{Gives}
use Rattle.gq_rules_meaning.specs.Graphs.{id_value, with_shown}
use Rattle.gq_rules_meaning.specs.Meanings.{Is, Outcome}
use Rattle.gq_rules_meaning.specs.States.{value_at}

-- the value at a place of a row, of the attribute there
abbrev pub attribute_at : List Attribute → List Value → Option ℕ → Outcome
attribute_at attributes row place = value_at (bases_of (attribute_fields attributes)) (map val row) place

-- the attributes of an edge
abbrev pub attributes_of : EdgeRow → List Value
attributes_of row = row.attributes

-- the same of a vertex of a type
abbrev pub vertex_value : VertexType → VertexRow → Option ℕ → Outcome
vertex_value t row place = value_at (bases_of (vertex_sort t).fields) (with_shown row (Some t) (map val row.attributes)) place

-- the id as a value
abbrev pub id_shown : IdShape → List ℕ → Outcome
id_shown shape id = Gives (Is (id_base shape.kind) (id_value shape.kind id))
