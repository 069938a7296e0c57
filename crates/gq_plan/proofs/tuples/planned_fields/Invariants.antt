use Rattle.std.proofs.Common.{◌≡◌, drop}
use Rattle.gq_rules_typing.specs.StatementViews.{view_fields}
use Rattle.gq_plan_expr.proofs.ListLemmas.{after}
use Rattle.gq_plan_select.specs.Resolved.{each_resolved}
use Rattle.gq_plan_expr.specs.Names.{globals_in}
use Rattle.gq_plan.specs.Heading.{resolved_field}
use Rattle.gq_plan.proofs.tuples.planned_fields.Given as goal

abbrev pub invariant-loop-tree : goal.invariant-loop-tree
invariant-loop-tree l =
    each_resolved (resolved_field (globals_in l.found)) (view_fields l.trees)
    ≡ after l.planned (each_resolved (resolved_field (globals_in l.found)) (view_fields (drop l.tree-index l.trees)))
