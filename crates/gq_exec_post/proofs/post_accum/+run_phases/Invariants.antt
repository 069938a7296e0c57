use Rattle.std.proofs.Common.{length}
use Rattle.gq_exec_post.proofs.post_accum.+run_phases.Given as goal

abbrev pub decreases-run_phases : goal.decreases-run_phases
decreases-run_phases l = length l.acts.now
