use Rattle.std.proofs.Common.{◌≡◌, drop, map}
use Rattle.gq_value.specs.AccumViews.{accum_of}
use Rattle.gq_rules_typing.specs.Judging.{through_judged}
use Rattle.gq_rules_typing.specs.QueryTypes.{typing_accum}
use Rattle.gq_rules_typing.specs.StatementViews.{view_accum}
use Rattle.gq_scope.specs.Held.{scope_in}
use Rattle.gq_check_from.specs.Faults.{Grows}
use Rattle.gq_check_decls.specs.Counts.{accum_count}
use Rattle.gq_check_decls.proofs.heads.all_accums.Given as goal

abbrev pub invariant-loop-tree : goal.invariant-loop-tree
invariant-loop-tree l = record {
  judged : through_judged (typing_accum (accum_of l.kind)) (scope_in l.initial.scope) (map view_accum l.trees)
      ≡ through_judged (typing_accum (accum_of l.kind)) (scope_in l.scope) (map view_accum (drop l.tree-index l.trees));
  counted : l.count ≡ accum_count (scope_in l.scope);
  grows : Grows l.initial.scope l.scope;
}
