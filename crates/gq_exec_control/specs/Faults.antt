-- Faults: faults of evaluations and of blocks as faults of a run.
use Rattle.std.specs.Prelude.{Result, Ok, Err}
use Rattle.gq_eval_operand.specs.declared.halt.Halt.{Halt}
use Rattle.gq_eval_operand.specs.declared.halt.Halt.TheVariants as halt
use Rattle.gq_eval_context.specs.declared.after.BlockFault.{BlockFault}
use Rattle.gq_eval_context.specs.declared.after.BlockFault.TheVariants as block
use Rattle.gq_exec_control.specs.declared.running.RunFault.{RunFault}
use Rattle.gq_exec_control.specs.declared.running.RunFault.TheVariants as fault

abbrev pub fault_of : Halt → RunFault
fault_of (halt.Wrong w) = fault.Eval w
fault_of halt.Stuck = fault.Stuck
fault_of halt.OutOfMemory = fault.OutOfMemory

abbrev pub faults_of : {B : Type 0} → Result B Halt → Result B RunFault
faults_of (Ok b) = Ok b
faults_of (Err h) = Err (fault_of h)

abbrev pub fault_of_block : BlockFault → RunFault
fault_of_block (block.Eval at w) = fault.Eval w
fault_of_block (block.SumRange n) = fault.SumRange n
fault_of_block block.Stuck = fault.Stuck
fault_of_block block.OutOfMemory = fault.OutOfMemory
