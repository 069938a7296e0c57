-- In each loop the items planned so far come before the rest.
use Rattle.std.proofs.Common.{◌≡◌, drop, Some}
use Rattle.gq_rules_typing.specs.SelectViews.{view_act, view_acts}
use Rattle.gq_plan_expr.specs.Names.{known_of}
use Rattle.gq_plan_expr.specs.Resolved.{◌>>=◌}
use Rattle.gq_plan_expr.proofs.ListLemmas.{after}
use Rattle.gq_plan_select.specs.Resolved.{resolved_act, resolved_acts, resolved_choices, view_choices, if_of}
use Rattle.gq_plan_select.proofs.ActLemmas as branches
use Rattle.gq_plan_select.proofs.acts.+acts.Given as goal

abbrev pub invariant-acts-loop-item : goal.invariant-acts-loop-item
invariant-acts-loop-item l = resolved_acts (known_of l.names) (view_acts l.list) ≡ after l.planned (resolved_acts (known_of l.names) (view_acts (drop l.item-index l.list)))

abbrev pub invariant-act-loop-branch : goal.invariant-act-loop-branch
invariant-act-loop-branch l =
    resolved_act (known_of l.names) (view_act l.item)
    ≡ (branches.after l.planned (resolved_choices (known_of l.names) (view_choices (drop l.branch-index l.branch-items) l.others)) >>= λ b. Some (if_of b))
