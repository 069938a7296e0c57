use Rattle.std.proofs.Common.{◌+◌, ◌*◌}
use Rattle.gq_exec_post.proofs.JudgingSteps.{JudgedTo}
use Rattle.gq_exec_post.proofs.judging.+judging.Given as goal

abbrev pub decreases-still_fits : goal.decreases-still_fits
decreases-still_fits l = 4 * goal.size-still_fits l

abbrev pub decreases-part_fits : goal.decreases-part_fits
decreases-part_fits l = 4 * goal.size-part_fits l + 1

abbrev pub decreases-parts_fit : goal.decreases-parts_fit
decreases-parts_fit l = 4 * goal.size-parts_fit l + 2

abbrev pub invariant-parts_fit-loop-place : goal.invariant-parts_fit-loop-place
invariant-parts_fit-loop-place l = JudgedTo l.inputs l.parts l.place
