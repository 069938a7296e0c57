use Rattle.std.proofs.Common.{take}
use Rattle.gq_vertex.specs.Named.{IsSorted}
use Rattle.gq_vertex.proofs.index.sorted.Given as goal

abbrev pub invariant-loop-number : goal.invariant-loop-number
invariant-loop-number l = IsSorted (take l.number l.rows) l.names
