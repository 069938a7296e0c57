-- Values: arguments of a script, or of its file of arguments, are values of the parameters' types.
use Rattle.std.specs.Prelude.{◌≡◌, List, Option}
use Rattle.gq_value.specs.Val.{Val}
use Rattle.gq_graph.specs.Catalog.{Schema}
use Rattle.gq_graph.specs.declared.types.GraphType.{GraphType}
use Rattle.gq_graph.specs.declared.rows.VertexRow.{VertexRow}
use Rattle.gq_graph.specs.declared.rows.EdgeRow.{EdgeRow}
use Rattle.gq_rules_typing.specs.Statements.{Bytes, Parameter}
use Rattle.gq_rules_typing.specs.Sorts.{sorts_of}
use Rattle.gq_rules_meaning.specs.Calendars.{Calendar}
use Rattle.gq_rules_meaning.specs.Graphs.{graph_of}
use Rattle.gq_rules_meaning.specs.Queries.{world_of}
use Rattle.gq_rules_meaning.specs.Arguments.{Argument, Member, AllValues, in_order, by_members, values_of}
use Rattle.gq_rules_safety.specs.Laws.{ArgumentsFit}

-- if none of them is bad, the values are of the parameters' types: those in parentheses
abbrev pub OrderLaw : Type 0
OrderLaw = (schema : Schema) (own : Option GraphType) (vertices : List VertexRow) (edges : List EdgeRow) (clock : Calendar) (parameters : List (Parameter Bytes)) (arguments : List Argument) (values : List Val)
    → values_of (sorts_of schema own) vertices parameters (in_order parameters arguments) ≡ AllValues values → ArgumentsFit (world_of (graph_of schema own vertices edges) clock) parameters values

-- and those of the file
abbrev pub MemberLaw : Type 0
MemberLaw = (schema : Schema) (own : Option GraphType) (vertices : List VertexRow) (edges : List EdgeRow) (clock : Calendar) (parameters : List (Parameter Bytes)) (members : List (Bytes × Member)) (values : List Val)
    → values_of (sorts_of schema own) vertices parameters (by_members parameters members) ≡ AllValues values → ArgumentsFit (world_of (graph_of schema own vertices edges) clock) parameters values
