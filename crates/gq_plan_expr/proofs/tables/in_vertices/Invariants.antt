use Rattle.std.proofs.Common.{◌≡◌, ◌++◌, drop, map}
use Rattle.gq_rules_typing.specs.Sorts.{vertex_sort}
use Rattle.gq_plan_expr.specs.Found.{in_vertex}
use Rattle.gq_plan_expr.proofs.tables.in_vertices.Given as goal

abbrev pub invariant-loop-number : goal.invariant-loop-number
invariant-loop-number l = map (in_vertex l.name) (map vertex_sort l.catalog.vertex_types) ≡ l.places ++ map (in_vertex l.name) (map vertex_sort (drop l.number l.catalog.vertex_types))
