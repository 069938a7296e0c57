use Rattle.std.proofs.Common.{◌≤◌, length, take}
use Rattle.gq_vertex.specs.Named.{IsSorted}
use Rattle.gq_vertex.proofs.index.cut_names.Given as goal

abbrev pub invariant-loop-left : goal.invariant-loop-left
invariant-loop-left l = record {
  sorted : IsSorted (take l.left l.rows) l.names;
  low : l.left ≤ length l.rows;
  over : l.len ≤ l.left;
}

abbrev pub decreases-loop-left : goal.decreases-loop-left
decreases-loop-left l = l.left
