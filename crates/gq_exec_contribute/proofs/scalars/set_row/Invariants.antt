use Rattle.gq_value.specs.declared.value.Value.TheVariants as value
use Rattle.gq_exec_contribute.proofs.ScalarLemmas.{SetTo}
use Rattle.gq_exec_contribute.proofs.scalars.set_row.Given as goal

abbrev pub invariant-loop-place : goal.invariant-loop-place
invariant-loop-place l = SetTo value.Int l.ints l.fn.row l.place l.row
