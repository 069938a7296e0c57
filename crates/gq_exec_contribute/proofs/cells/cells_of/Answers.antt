use Rattle.std.proofs.Common.{rules}
use Rattle.gq_exec_contribute.proofs.CellLemmas.{cells_more}
use Rattle.gq_exec_contribute.proofs.cells.cells_of.Goals as goal

pub loop-number-preserved : goal.loop-number-preserved
loop-number-preserved c = cells_more c.args.slots.now c.loop-number.number c.loop-number.cells c.push.new.self c.in-Some.those c.in-Some.ensures (search rules) c.loop-number.invariant
