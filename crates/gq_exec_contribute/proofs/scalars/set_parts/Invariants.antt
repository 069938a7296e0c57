use Rattle.gq_exec_contribute.specs.Scalars.{one_int}
use Rattle.gq_exec_contribute.proofs.ScalarLemmas.{SetTo}
use Rattle.gq_exec_contribute.proofs.scalars.set_parts.Given as goal

abbrev pub invariant-loop-place : goal.invariant-loop-place
invariant-loop-place l = SetTo one_int l.ints l.fn.parts l.place l.parts
