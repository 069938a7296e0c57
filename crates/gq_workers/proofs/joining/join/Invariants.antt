use Rattle.gq_workers.proofs.RoundLemmas.{JoinTo}
use Rattle.gq_workers.proofs.joining.join.Given as goal

abbrev pub invariant-loop-place : goal.invariant-loop-place
invariant-loop-place l = JoinTo l.fn.words l.other l.place l.words
