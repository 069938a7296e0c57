use Rattle.std.proofs.Common.{◌+◌, ◌*◌}
use Rattle.gq_rules_calendar.specs.Gregorian.{gregorian}
use Rattle.gq_exec_contribute.specs.Prepared.{sees_in}
use Rattle.gq_exec_contribute.proofs.TruthLemmas.{AllTo, AnyTo}
use Rattle.gq_exec_contribute.proofs.truths.+truth.Given as goal

abbrev pub invariant-all-loop-other : goal.invariant-all-loop-other
invariant-all-loop-other l = AllTo (sees_in gregorian l.over l.leaves l.accums l.c) l.fn.first l.others l.other-index l.holds

abbrev pub invariant-any-loop-other : goal.invariant-any-loop-other
invariant-any-loop-other l = AnyTo (sees_in gregorian l.over l.leaves l.accums l.c) l.fn.first l.others l.other-index l.holds

-- ---- measures of the recursion; a function that passes its argument on has a greater one

abbrev pub decreases-truth : goal.decreases-truth
decreases-truth l = 8 * goal.size-truth l + 1

abbrev pub decreases-joined : goal.decreases-joined
decreases-joined l = 8 * goal.size-joined l + 0

abbrev pub decreases-all : goal.decreases-all
decreases-all l = 8 * goal.size-all l + 4

abbrev pub decreases-any : goal.decreases-any
decreases-any l = 8 * goal.size-any l + 4
