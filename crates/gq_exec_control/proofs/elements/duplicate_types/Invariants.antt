use Rattle.std.proofs.Common.{◌≡◌, take}
use Rattle.gq_exec_control.proofs.elements.duplicate_types.Given as goal

-- the types visited so far are copied
abbrev pub invariant-loop-base : goal.invariant-loop-base
invariant-loop-base l = l.copy ≡ take l.base-index l.types
