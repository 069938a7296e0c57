use Rattle.gq_exec_contribute.proofs.ScalarLemmas.{FedTo}
use Rattle.gq_exec_contribute.proofs.scalars.feed_over.Given as goal

-- the inputs so far are fed
abbrev pub invariant-loop-place : goal.invariant-loop-place
invariant-loop-place l = FedTo l.initial.accums l.inputs l.place l.accums
