use Rattle.std.proofs.Common.{◌≡◌, drop}
use Rattle.gq_plan_expr.specs.Names.{known_of, sees_of}
use Rattle.gq_plan_expr.proofs.ListLemmas.{after}
use Rattle.gq_plan_select.specs.Resolved.{each_resolved, resolved_step, view_steps}
use Rattle.gq_plan_select.proofs.walks.steps.Given as goal

abbrev pub invariant-loop-tree : goal.invariant-loop-tree
invariant-loop-tree l =
    each_resolved (resolved_step (known_of l.names) (sees_of l.names)) (view_steps l.trees)
    ≡ after l.planned (each_resolved (resolved_step (known_of l.names) (sees_of l.names)) (view_steps (drop l.tree-index l.trees)))
