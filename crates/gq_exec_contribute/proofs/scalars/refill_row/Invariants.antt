use Rattle.std.proofs.Common.{◌≡◌, map, take}
use Rattle.gq_value.specs.declared.value.Value.TheVariants as value
use Rattle.gq_exec_contribute.proofs.scalars.refill_row.Given as goal

abbrev pub invariant-loop-x : goal.invariant-loop-x
invariant-loop-x l = l.row ≡ map value.Int (take l.x-index l.ints)
