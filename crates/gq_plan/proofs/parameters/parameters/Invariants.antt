use Rattle.gq_scope.specs.Held.{sorts_in}
use Rattle.gq_plan.proofs.ParameterLemmas.{PlannedFrom}
use Rattle.gq_plan.proofs.parameters.parameters.Given as goal

abbrev pub invariant-loop-left : goal.invariant-loop-left
invariant-loop-left l = PlannedFrom (sorts_in l.scope) l.trees l.left l.planned l.places

abbrev pub decreases-loop-left : goal.decreases-loop-left
decreases-loop-left l = l.left
