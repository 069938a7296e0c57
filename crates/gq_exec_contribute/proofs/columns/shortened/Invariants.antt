use Rattle.std.proofs.Common.{◌≡◌, take}
use Rattle.gq_exec_contribute.proofs.columns.shortened.Given as goal

abbrev pub invariant-loop-x : goal.invariant-loop-x
invariant-loop-x l = l.shorts ≡ take l.x-index l.ints
