use Rattle.std.proofs.Common.{◌<◌, ◌≤◌, ◌∙◌, ap, length, arith, Some}
use Rattle.gq_rules_typing.specs.SelectViews.{view_acts}
use Rattle.gq_plan_expr.specs.Names.{known_of}
use Rattle.gq_plan_expr.specs.Resolved.{◌>>=◌}
use Rattle.gq_plan_select.specs.Resolved.{resolved_acts}
use Rattle.gq_plan_select.proofs.ActLemmas.{else_full, else_empty}
use Rattle.gq_plan_select.proofs.acts.+acts.Goals as goal

pub else_acts-returns-then-list-gt0 : goal.else_acts-returns-then-list-gt0
else_acts-returns-then-list-gt0 t c =
    let full : 0 < length c.args.list.now = omega (arith, c.if-list-gt0.true) in
    else_full c.args.list.now (resolved_acts (known_of c.args.names.now) (view_acts c.args.list.now)) full ∙ ap (λ o. o >>= λ acts. Some (Some acts)) c.in_ok-body.ensures

pub else_acts-returns : goal.else_acts-returns
else_acts-returns t c =
    let none : length c.args.list.now ≤ 0 = omega (arith, c.if-list-gt0.false) in
    else_empty c.args.list.now (resolved_acts (known_of c.args.names.now) (view_acts c.args.list.now)) none
