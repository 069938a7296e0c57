-- Faults: an evaluation's end as the fault of a block, with its place.
use Rattle.std.specs.Prelude.{ℕ}
use Rattle.gq_eval_operand.specs.declared.halt.Halt.{Halt}
use Rattle.gq_eval_operand.specs.declared.halt.Halt.TheVariants as halt
use Rattle.gq_eval_context.specs.declared.after.BlockFault.{BlockFault}
use Rattle.gq_eval_context.specs.declared.after.BlockFault.TheVariants as fault

abbrev pub fault_at : ℕ → Halt → BlockFault
fault_at v (halt.Wrong w) = fault.Eval v w
fault_at v halt.Stuck = fault.Stuck
fault_at v halt.OutOfMemory = fault.OutOfMemory
