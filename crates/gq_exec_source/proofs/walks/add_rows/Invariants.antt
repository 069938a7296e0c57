use Rattle.std.proofs.Common.{◌≡◌, ◌++◌, take}
use Rattle.std.specs.List.{flat_map}
use Rattle.gq_graph.specs.Edges.{edge_at}
use Rattle.gq_exec_source.specs.Hops.{kept}
use Rattle.gq_exec_source.specs.Ways.{walks_along}
use Rattle.gq_exec_source.proofs.walks.add_rows.Given as goal

abbrev pub invariant-loop-number : goal.invariant-loop-number
invariant-loop-number l =
    l.walks.items ≡ l.fn.walks.items ++ kept l.beyond (flat_map (λ r. walks_along l.ways l.edge_type l.kind r (edge_at l.rows r)) (take l.number-index l.numbers))
