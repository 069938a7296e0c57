use Rattle.std.proofs.Common.{◌≡◌, ◌++◌, drop, map}
use Rattle.gq_rules_typing.specs.Sorts.{edge_sort}
use Rattle.gq_plan_expr.specs.Found.{in_edge}
use Rattle.gq_plan_expr.proofs.tables.in_edges.Given as goal

abbrev pub invariant-loop-edge : goal.invariant-loop-edge
invariant-loop-edge l = map (in_edge l.name) (map edge_sort l.types) ≡ l.places ++ map (in_edge l.name) (map edge_sort (drop l.edge-index l.types))
