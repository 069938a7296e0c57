use Rattle.std.proofs.Common.{vec_len}
use Rattle.gq_exec_contribute.proofs.PassLemmas.{PutTo}
use Rattle.gq_exec_contribute.proofs.candidate.put.Given as goal

abbrev pub invariant-loop-feeding : goal.invariant-loop-feeding
invariant-loop-feeding l = PutTo l.slots l.fn.into l.into l.fn.gathered.items l.left.items

abbrev pub decreases-loop-feeding : goal.decreases-loop-feeding
decreases-loop-feeding l = vec_len l.left
