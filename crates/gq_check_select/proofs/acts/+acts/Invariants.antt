-- In each loop, typing the rest after the statements so far is typing the whole.
use Rattle.std.proofs.Common.{◌≡◌, drop}
use Rattle.gq_rules_typing.specs.SelectViews.{view_act, view_acts}
use Rattle.gq_rules_typing.specs.ActTypes.{typing_act, typing_acts, typing_choices}
use Rattle.gq_scope.specs.Held.{scope_in}
use Rattle.gq_check_select.specs.Trees.{view_choices}
use Rattle.gq_check_select.proofs.acts.+acts.Given as goal

abbrev pub invariant-acts-loop-item : goal.invariant-acts-loop-item
invariant-acts-loop-item l =
    typing_acts (scope_in l.scope) l.post l.count (view_acts l.list) ≡ typing_acts (scope_in l.scope) l.post l.total (view_acts (drop l.item-index l.list))

abbrev pub invariant-act-loop-branch : goal.invariant-act-loop-branch
invariant-act-loop-branch l =
    typing_act (scope_in l.scope) l.post l.count (view_act l.item)
    ≡ typing_choices (scope_in l.scope) l.post l.total (view_choices (drop l.branch-index l.branch-items) l.others)
