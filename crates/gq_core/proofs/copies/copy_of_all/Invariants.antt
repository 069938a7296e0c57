use Rattle.std.proofs.Common.{◌≡◌, take}
use Rattle.gq_core.proofs.copies.copy_of_all.Given as goal

-- the contributions so far are copied
abbrev pub invariant-loop-target : goal.invariant-loop-target
invariant-loop-target l = l.copy ≡ take l.target-index l.inputs
