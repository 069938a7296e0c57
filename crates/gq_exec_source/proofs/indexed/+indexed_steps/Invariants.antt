use Rattle.std.proofs.Common.{length}
use Rattle.gq_exec_source.proofs.indexed.+indexed_steps.Given as goal

abbrev pub decreases-indexed_steps : goal.decreases-indexed_steps
decreases-indexed_steps l = length l.steps.now
