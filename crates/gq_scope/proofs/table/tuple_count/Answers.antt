use Rattle.std.proofs.Common.{◌≤◌, ◌∙◌, arith, sym, true, false}
use Rattle.gq_scope.proofs.TupleLemmas.{counted, count_fits}
use Rattle.gq_scope.proofs.table.tuple_count.Goals as goal
use Rattle.gq_scope.proofs.table.tuple_count.Goals.{then-is_tuple, else-is_tuple}

pub overflow_add-count : goal.overflow_add-count
overflow_add-count c =
    let few : c.loop-entry.count ≤ c.loop-entry.entry-index = count_fits c.args.names.now c.loop-entry.entry-index c.loop-entry.count c.loop-entry-test.true c.loop-entry.invariant in
    omega arith

pub loop-entry-preserved : goal.loop-entry-preserved
loop-entry-preserved c = elim c.if-is_tuple.branch [
  | then-is_tuple w ↦
      let e = counted c.args.names.now c.loop-entry.entry-index c.entry-item.result true c.loop-entry-test.true c.entry-item.is (sym w.if-is_tuple.true ∙ c.is_tuple.ensures) in
      omega (arith, e, c.loop-entry.invariant, w.count-is)
  | else-is_tuple w ↦
      let e = counted c.args.names.now c.loop-entry.entry-index c.entry-item.result false c.loop-entry-test.true c.entry-item.is (sym w.if-is_tuple.false ∙ c.is_tuple.ensures) in
      omega (arith, e, c.loop-entry.invariant, w.count-is)
]
