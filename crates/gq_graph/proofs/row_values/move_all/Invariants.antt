use Rattle.std.proofs.Common.{◌≡◌, ◌++◌, length, take, drop}
use Rattle.gq_graph.proofs.row_values.move_all.Given as goal

abbrev pub invariant-loop-at : goal.invariant-loop-at
invariant-loop-at l = record {
  moved : l.values.items ≡ l.fn.values.items ++ take l.at l.fn.row;
  rest : drop l.at l.row ≡ drop l.at l.fn.row;
  long : length l.row ≡ length l.fn.row;
}
