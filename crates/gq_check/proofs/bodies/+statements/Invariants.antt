use Rattle.std.proofs.Common.{◌≡◌, drop, Ok}
use Rattle.gq_rules_typing.specs.Judging.{◌>>◌}
use Rattle.gq_rules_typing.specs.StatementTypes.{typing_stmt, typing_stmts, typing_branches}
use Rattle.gq_rules_typing.specs.StatementViews.{view_stmt, view_stmts}
use Rattle.gq_rules_typing.proofs.ViewLaws.{view_branches}
use Rattle.gq_scope.specs.Held.{scope_in}
use Rattle.gq_check_from.specs.Faults.{Grows}
use Rattle.gq_check.proofs.bodies.+statements.Given as goal

abbrev pub invariant-statements-loop-tree : goal.invariant-statements-loop-tree
invariant-statements-loop-tree l = record {
  judged : typing_stmts (scope_in l.initial.scope) (view_stmts l.trees) ≡ typing_stmts (scope_in l.scope) (view_stmts (drop l.tree-index l.trees));
  grows : Grows l.initial.scope l.scope;
}

abbrev pub invariant-statement-loop-branch : goal.invariant-statement-loop-branch
invariant-statement-loop-branch l = record {
  judged : typing_stmt (scope_in l.initial.scope) (view_stmt l.tree)
      ≡ (typing_branches (scope_in l.initial.scope) (view_branches (drop l.branch-index l.branch-items) l.others) >> Ok (scope_in l.initial.scope));
  same : l.scope ≡ l.initial.scope;
}
