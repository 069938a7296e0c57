use Rattle.gq_plan.proofs.HeadLemmas.{DefinitionsSoFar}
use Rattle.gq_plan.proofs.definitions.definitions.Given as goal

abbrev pub invariant-loop-tree : goal.invariant-loop-tree
invariant-loop-tree l = DefinitionsSoFar l.places l.initial.scope l.scope l.initial.tuples l.tuples l.initial.slots l.slots l.trees l.tree-index l.planned
