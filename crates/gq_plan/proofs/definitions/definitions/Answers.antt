use Rattle.std.proofs.Common.{◌+◌, List, rules, sym, subst}
use Rattle.gq_plan_ir.specs.declared.plan.Definition.{Definition}
use Rattle.gq_plan.proofs.HeadLemmas.{DefinitionsSoFar, definition_next}
use Rattle.gq_plan.proofs.definitions.definitions.Goals as goal

pub loop-tree-preserved : goal.loop-tree-preserved
loop-tree-preserved c =
    subst (λ (done : List Definition). DefinitionsSoFar c.args.places.now c.args.scope.now c.definition.new.scope c.args.tuples.now c.definition.new.tuples c.args.slots.now c.definition.new.slots c.args.trees.now (c.loop-tree.tree-index + 1) done)
    (sym c.in_ok-push.ensures.ok)
    (definition_next c.args.places.now c.args.scope.now c.loop-tree.scope c.definition.new.scope c.args.tuples.now c.loop-tree.tuples c.definition.new.tuples c.args.slots.now c.loop-tree.slots c.definition.new.slots
    c.args.trees.now c.loop-tree.tree-index c.loop-tree.planned c.tree-item.result c.in_ok-one.one (search rules) c.tree-item.is c.loop-tree.invariant c.in_ok-one.ensures.planned c.in_ok-one.ensures.scoped)
