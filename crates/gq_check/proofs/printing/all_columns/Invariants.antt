use Rattle.std.proofs.Common.{◌≡◌, [], drop, map}
use Rattle.gq_rules_typing.specs.Judging.{through_judged}
use Rattle.gq_rules_typing.specs.StatementTypes.{typing_item}
use Rattle.gq_rules_typing.specs.StatementViews.{view_labelled}
use Rattle.gq_scope.specs.Held.{names_in}
use Rattle.gq_check.proofs.printing.all_columns.Given as goal

abbrev pub invariant-loop-column : goal.invariant-loop-column
invariant-loop-column l =
    through_judged (typing_item (names_in l.scope)) [] (map view_labelled l.columns)
    ≡ through_judged (typing_item (names_in l.scope)) l.keys (map view_labelled (drop l.column-index l.columns))
