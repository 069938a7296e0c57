use Rattle.std.proofs.Common.{◌≡◌, take}
use Rattle.gq_core.proofs.copies.+inputs.Given as goal

-- the inputs so far are copied
abbrev pub invariant-copy_of_inputs-loop-input : goal.invariant-copy_of_inputs-loop-input
invariant-copy_of_inputs-loop-input l = l.copy ≡ take l.input-index l.inputs
