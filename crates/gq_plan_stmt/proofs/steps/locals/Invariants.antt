use Rattle.std.proofs.Common.{◌≡◌, drop}
use Rattle.gq_rules_typing.specs.StatementViews.{view_locals}
use Rattle.gq_plan_expr.specs.Names.{globals_in}
use Rattle.gq_plan_stmt.specs.Steps.{resolved_locals}
use Rattle.gq_plan_stmt.proofs.ListLemmas.{after_in}
use Rattle.gq_plan_stmt.proofs.steps.locals.Given as goal

abbrev pub invariant-loop-tree : goal.invariant-loop-tree
invariant-loop-tree l =
    resolved_locals (globals_in l.globals) l.initial.places (view_locals l.trees)
    ≡ after_in l.planned (resolved_locals (globals_in l.globals) l.places (view_locals (drop l.tree-index l.trees)))
