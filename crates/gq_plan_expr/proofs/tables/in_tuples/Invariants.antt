use Rattle.std.proofs.Common.{◌≡◌, ◌++◌, drop, map}
use Rattle.gq_plan_expr.specs.Found.{in_tuple}
use Rattle.gq_plan_expr.proofs.tables.in_tuples.Given as goal

abbrev pub invariant-loop-tuple : goal.invariant-loop-tuple
invariant-loop-tuple l = map (in_tuple l.name) l.types ≡ l.places ++ map (in_tuple l.name) (drop l.tuple-index l.types)
