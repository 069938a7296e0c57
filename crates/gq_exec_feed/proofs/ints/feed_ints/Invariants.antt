use Rattle.gq_exec_feed.proofs.BatchLemmas.{FedSoFar}
use Rattle.gq_exec_feed.proofs.ints.feed_ints.Given as goal

abbrev pub invariant-loop-target : goal.invariant-loop-target
invariant-loop-target l = FedSoFar l.initial.accums l.inputs l.target-index l.accums
