-- References: the references that replace the names of a SELECT.
use Rattle.std.specs.Prelude.{if◌then◌else◌}
use Rattle.gq_rules_typing.specs.Statements.{Bytes}
use Rattle.gq_plan_ir.specs.Reference.{Reference, VertexType, EdgeType}
use Rattle.gq_plan_ir.specs.Naming.{Naming}
use Rattle.gq_plan_expr.specs.Known.{Known, or_nothing, references}
use Rattle.gq_plan_expr.specs.Globals.{Sees}

abbrev pub vertex_reference : Sees → Bytes → Reference
vertex_reference s t = or_nothing VertexType (s.vertex_type t)

abbrev pub edge_reference : Sees → Bytes → Reference
edge_reference s t = or_nothing EdgeType (s.edge_type t)

-- a SELECT begins from a set variable or a vertex type
abbrev pub source_reference : Known → Sees → Bytes → Reference
source_reference k s x = if s.is_set x then (references k).name x else vertex_reference s x

abbrev pub naming_of : Known → Sees → Naming Bytes Reference
naming_of k s = record { inside = references k; source = source_reference k s; vertex_type = vertex_reference s; edge_type = edge_reference s }
