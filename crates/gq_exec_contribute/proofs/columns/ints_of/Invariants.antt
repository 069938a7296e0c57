use Rattle.gq_exec_contribute.specs.Columns.{StandsInt}
use Rattle.gq_exec_contribute.proofs.ColumnLemmas.{ListTo}
use Rattle.gq_exec_contribute.proofs.columns.ints_of.Given as goal

-- what is listed so far
abbrev pub invariant-loop-vertex : goal.invariant-loop-vertex
invariant-loop-vertex l = ListTo (StandsInt l.accums l.at.slot) l.vertex l.ints
