use Rattle.std.proofs.Common.{◌-◌, ◌≤◌}
use Rattle.gq_frame.specs.Pages.{Fills}
use Rattle.gq_frame.proofs.filling.fill_by.Given as goal

-- all but those that are left
abbrev pub invariant-loop-left : goal.invariant-loop-left
invariant-loop-left l = (l.left ≤ l.count) × Fills l.content (l.count - l.left) l.fn.contents l.contents

abbrev pub decreases-loop-left : goal.decreases-loop-left
decreases-loop-left l = l.left
