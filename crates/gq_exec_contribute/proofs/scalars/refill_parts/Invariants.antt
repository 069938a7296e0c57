use Rattle.std.proofs.Common.{◌≡◌, map, take}
use Rattle.gq_exec_contribute.specs.Scalars.{one_int}
use Rattle.gq_exec_contribute.proofs.scalars.refill_parts.Given as goal

abbrev pub invariant-loop-x : goal.invariant-loop-x
invariant-loop-x l = l.parts ≡ map one_int (take l.x-index l.ints)
