use Rattle.std.proofs.Common.{◌≡◌, ◌≤◌, length, take}
use Rattle.gq_json.specs.Average.{trimmed}
use Rattle.gq_json.proofs.average.trimmed.Given as goal

abbrev pub invariant-loop-end : goal.invariant-loop-end
invariant-loop-end l = (l.end ≤ length l.digits) × (trimmed (take l.end l.digits) ≡ trimmed l.digits)

abbrev pub decreases-loop-end : goal.decreases-loop-end
decreases-loop-end l = l.end
