use Rattle.gq_exec_post.proofs.TakenLemmas.{FitTo}
use Rattle.gq_exec_post.proofs.waiting.all_fit.Given as goal

abbrev pub invariant-loop-x : goal.invariant-loop-x
invariant-loop-x l = FitTo l.ints l.x-index
