use Rattle.gq_exec_contribute.specs.Columns.{StandsTruth}
use Rattle.gq_exec_contribute.proofs.ColumnLemmas.{ListTo}
use Rattle.gq_exec_contribute.proofs.columns.truths_of.Given as goal

-- what is listed so far
abbrev pub invariant-loop-vertex : goal.invariant-loop-vertex
invariant-loop-vertex l = ListTo (StandsTruth l.accums l.at.slot) l.vertex l.truths
