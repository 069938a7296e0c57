use Rattle.std.proofs.Common.{◌≡◌, drop, map}
use Rattle.gq_rules_typing.specs.Judging.{through_judged}
use Rattle.gq_rules_typing.specs.KindTypes.{kind_written}
use Rattle.gq_rules_typing.specs.QueryTypes.{typing_definition}
use Rattle.gq_rules_typing.specs.StatementViews.{view_definition}
use Rattle.gq_scope.specs.Held.{scope_in}
use Rattle.gq_check_from.specs.Faults.{Grows}
use Rattle.gq_check_decls.specs.Counts.{accum_count}
use Rattle.gq_check_decls.proofs.heads.definitions.Given as goal

abbrev pub invariant-loop-tree : goal.invariant-loop-tree
invariant-loop-tree l = record {
  judged : through_judged (typing_definition kind_written) (scope_in l.initial.scope) (map view_definition l.trees)
      ≡ through_judged (typing_definition kind_written) (scope_in l.scope) (map view_definition (drop l.tree-index l.trees));
  counted : l.count ≡ accum_count (scope_in l.scope);
  grows : Grows l.initial.scope l.scope;
}
