-- In each loop the items planned so far come before the rest.
use Rattle.std.proofs.Common.{◌≡◌, drop, Some}
use Rattle.gq_rules_typing.specs.StatementViews.{view_stmt, view_stmts}
use Rattle.gq_rules_typing.proofs.ViewLaws.{view_branches}
use Rattle.gq_plan_expr.specs.Names.{globals_in}
use Rattle.gq_plan_expr.specs.Resolved.{◌>>=◌}
use Rattle.gq_plan_stmt.specs.Steps.{resolved_stmt, resolved_stmts, resolved_branches, if_of}
use Rattle.gq_plan_stmt.proofs.ListLemmas.{after_in, after_branches}
use Rattle.gq_plan_stmt.proofs.steps.+steps.Given as goal

abbrev pub invariant-steps-loop-tree : goal.invariant-steps-loop-tree
invariant-steps-loop-tree l =
    resolved_stmts (globals_in l.globals) l.initial.places (view_stmts l.trees)
    ≡ after_in l.planned (resolved_stmts (globals_in l.globals) l.places (view_stmts (drop l.tree-index l.trees)))

abbrev pub invariant-step-loop-branch : goal.invariant-step-loop-branch
invariant-step-loop-branch l =
    resolved_stmt (globals_in l.globals) l.initial.places (view_stmt l.tree)
    ≡ (after_branches l.planned (resolved_branches (globals_in l.globals) l.places (view_branches (drop l.branch-index l.branch-items) l.others)) >>= λ b. Some (b.0, if_of b.1))
