use Rattle.gq_exec_contribute.proofs.CellLemmas.{CellsTo}
use Rattle.gq_exec_contribute.proofs.cells.cells_of.Given as goal

-- the cells of the slots so far
abbrev pub invariant-loop-number : goal.invariant-loop-number
invariant-loop-number l = CellsTo l.slots l.number l.cells
