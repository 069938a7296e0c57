use Rattle.std.proofs.Common.{take, map, Some}
use Rattle.gq_edge.specs.Sorted.{AreSorted, row_name}
use Rattle.gq_edge.proofs.names.sorted.Given as goal

abbrev pub invariant-loop-number : goal.invariant-loop-number
invariant-loop-number l = AreSorted (take l.number (map (row_name l.namings) l.rows)) (Some l.names)
