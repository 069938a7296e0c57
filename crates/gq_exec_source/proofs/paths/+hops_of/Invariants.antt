use Rattle.std.proofs.Common.{length}
use Rattle.gq_exec_source.proofs.paths.+hops_of.Given as goal

abbrev pub decreases-hops_of : goal.decreases-hops_of
decreases-hops_of l = length l.steps.now
