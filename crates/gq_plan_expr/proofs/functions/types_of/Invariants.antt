use Rattle.std.proofs.Common.{◌≡◌, ◌++◌, drop}
use Rattle.gq_plan_expr.specs.Found.{field_types}
use Rattle.gq_plan_expr.proofs.functions.types_of.Given as goal

abbrev pub invariant-loop-field : goal.invariant-loop-field
invariant-loop-field l = field_types l.fields ≡ l.types ++ field_types (drop l.field-index l.fields)
