use Rattle.std.proofs.Common.{◌≡◌, [], drop, map}
use Rattle.gq_rules_typing.specs.Judging.{through_judged}
use Rattle.gq_rules_typing.specs.StatementTypes.{typing_printed}
use Rattle.gq_rules_typing.specs.StatementViews.{view_item}
use Rattle.gq_scope.specs.Held.{scope_in}
use Rattle.gq_check.proofs.printing.printed.Given as goal

abbrev pub invariant-loop-item : goal.invariant-loop-item
invariant-loop-item l = record {
  judged : through_judged (typing_printed (scope_in l.initial.scope)) [] (map view_item l.items)
      ≡ through_judged (typing_printed (scope_in l.initial.scope)) l.keys (map view_item (drop l.item-index l.items));
  same : l.scope ≡ l.initial.scope;
}
