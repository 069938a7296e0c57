-- References: the references of names in the statements of a plan: names in view, and names that are the same anywhere.
use Rattle.std.specs.Prelude.{List, map}
use Rattle.gq_scope.specs.declared.places.NameBinding.{NameBinding}
use Rattle.gq_scope.specs.Named.{Named}
use Rattle.gq_rules_typing.specs.Statements.{Bytes}
use Rattle.gq_rules_typing.specs.Words.{by_name}
use Rattle.gq_rules_typing.specs.Sorts.{Sorts}
use Rattle.gq_plan_ir.specs.Reference.{Reference, Place, Slot, VertexType, EdgeType, TypeName, Does}
use Rattle.gq_plan_ir.specs.References.{by_reference}
use Rattle.gq_plan_ir.specs.ExprView.{field_of, function_of}
use Rattle.gq_plan_ir.specs.Naming.{Visible, View, Fixed}
use Rattle.gq_plan_expr.specs.Known.{or_nothing, method_at}
use Rattle.gq_plan_expr.specs.Globals.{Globals}

-- ---- names in view; a marked one is a set

abbrev pub visible_of : Bytes × NameBinding → Visible Bytes Reference
visible_of e = record { name = e.0; reference = Place e.1.place; is_set = e.1.marked }

abbrev pub view_of : Named → View Bytes Reference
view_of n = map visible_of n.visible

-- the references of names that are the same anywhere, with these types and names of accumulators
abbrev pub fixed_in : Sorts → List Bytes → Globals → Fixed Bytes Reference
fixed_in sorts accums g = record {
  names = by_name sorts;
  references = by_reference sorts accums;
  nothing = TypeName;
  accum = λ a. or_nothing Slot (g.slot a);
  field = λ f. field_of (g.field f);
  method = λ m. or_nothing Does (method_at m);
  function = λ f. or_nothing function_of (g.function f);
  vertex_type = λ t. or_nothing VertexType (g.vertex_type t);
  edge_type = λ t. or_nothing EdgeType (g.edge_type t);
}
