use Rattle.std.proofs.Common.{◌≡◌, drop}
use Rattle.gq_value.specs.AccumViews.{base_of}
use Rattle.gq_rules_typing.specs.Judging.{through_judged}
use Rattle.gq_rules_typing.specs.StatementTypes.{typing_local}
use Rattle.gq_rules_typing.specs.StatementViews.{view_locals}
use Rattle.gq_scope.specs.Held.{scope_in}
use Rattle.gq_check_from.specs.Faults.{Grows}
use Rattle.gq_check.proofs.locals.all_locals.Given as goal

abbrev pub invariant-loop-local : goal.invariant-loop-local
invariant-loop-local l = record {
  judged : through_judged (typing_local (base_of l.base)) (scope_in l.initial.scope) (view_locals l.trees)
      ≡ through_judged (typing_local (base_of l.base)) (scope_in l.scope) (view_locals (drop l.local-index l.trees));
  grows : Grows l.initial.scope l.scope;
}
