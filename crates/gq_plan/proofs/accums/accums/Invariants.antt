use Rattle.gq_scope.specs.Held.{sorts_in}
use Rattle.gq_plan.specs.Heading.{heads_of}
use Rattle.gq_plan.proofs.HeadLemmas.{AccumsSoFar}
use Rattle.gq_plan.proofs.accums.accums.Given as goal

abbrev pub invariant-loop-tree : goal.invariant-loop-tree
invariant-loop-tree l = AccumsSoFar (sorts_in l.scope) l.places (heads_of l.tuples l.initial.slots) l.trees l.tree-index l.planned (heads_of l.tuples l.slots)
