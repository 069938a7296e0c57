use Rattle.std.proofs.Common.{◌≤◌, length, drop}
use Rattle.gq_nest.proofs.Seeks.{StartsBelow}
use Rattle.gq_nest.proofs.find.find.Given as goal

-- the key is below those that were gone over
abbrev pub invariant-loop-end : goal.invariant-loop-end
invariant-loop-end g l = (l.end ≤ length l.entries) × StartsBelow (g.Q.Comparable.compare l.key) (drop l.end l.entries)

abbrev pub decreases-loop-end : goal.decreases-loop-end
decreases-loop-end g l = l.end
