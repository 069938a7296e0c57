use Rattle.std.proofs.Common.{◌≡◌, length, drop}
use Rattle.std.proofs.Math.Seq.{paste}
use Rattle.gq_graph.proofs.row_values.write.Given as goal

abbrev pub invariant-loop-at : goal.invariant-loop-at
invariant-loop-at l = record {
  done : l.values.items ≡ paste l.fn.values.items l.start l.fn.row l.at;
  rest : drop l.at l.row ≡ drop l.at l.fn.row;
  long : length l.row ≡ length l.fn.row;
}
