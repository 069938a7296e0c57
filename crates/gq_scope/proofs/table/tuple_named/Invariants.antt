use Rattle.gq_scope.proofs.TupleLemmas.{Misses}
use Rattle.gq_scope.proofs.table.tuple_named.Given as goal

abbrev pub invariant-loop-number : goal.invariant-loop-number
invariant-loop-number l = Misses l.names l.name l.number
