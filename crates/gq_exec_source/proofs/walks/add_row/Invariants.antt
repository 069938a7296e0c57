use Rattle.std.proofs.Common.{◌≡◌, ◌++◌, take}
use Rattle.gq_exec_source.specs.Hops.{kept}
use Rattle.gq_exec_source.specs.Ways.{walks_along}
use Rattle.gq_exec_source.proofs.walks.add_row.Given as goal

abbrev pub invariant-loop-way : goal.invariant-loop-way
invariant-loop-way l = l.walks.items ≡ l.fn.walks.items ++ kept l.beyond (walks_along (take l.way-index l.ways) l.edge_type l.kind l.number l.row)
