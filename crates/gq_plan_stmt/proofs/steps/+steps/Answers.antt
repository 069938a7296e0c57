use Rattle.std.proofs.Common.{◌<◌, ◌≤◌, ◌∙◌, List, Option, Some, ap, sym, refl, length, arith}
use Rattle.std.specs.Option.{option_map, option_copied}
use Rattle.gq_tree.specs.View.{view}
use Rattle.gq_tree.specs.declared.expr.Node.{Node}
use Rattle.gq_tree.specs.declared.body.Stmt as code
use Rattle.gq_tree.specs.declared.body.ItemTree.{ItemTree}
use Rattle.gq_tree.specs.declared.body.SetTypesTree.{SetTypesTree}
use Rattle.gq_rules_typing.specs.Statements as plain
use Rattle.gq_rules_typing.specs.SelectViews.{view_change}
use Rattle.gq_rules_typing.specs.StatementViews.{view_base, view_over, view_right, view_locals, view_set_types, view_stmt, view_stmts}
use Rattle.gq_rules_typing.proofs.ViewLaws.{view_stmt-Local, view_stmt-Assign, view_stmt-Global, view_stmt-While, view_stmt-Foreach, view_stmt-Print}
use Rattle.gq_plan_expr.specs.declared.fault.PlanFault.TheVariants as fault
use Rattle.gq_plan_expr.specs.Names.{globals_in}
use Rattle.gq_plan_expr.specs.Resolved.{◌>>=◌}
use Rattle.gq_plan_stmt.specs.Parts.{view_items}
use Rattle.gq_plan_stmt.specs.Steps.{resolved_stmt, resolved_stmts, body_of}
use Rattle.gq_plan_stmt.proofs.ElseLemmas.{else_full, else_empty}
use Rattle.gq_plan_stmt.proofs.ListLemmas.{in_none}
use Rattle.gq_plan_stmt.proofs.CycleLemmas.{answers_same, answers_returned, steps_next, steps_stop, steps_all, if_begins, branch_next, branch_test_stops, branch_body_stops, if_none, if_else, if_else_stops, body_done, foreach_over_stops, foreach_name_stops, foreach_body_stops, foreach_done}
use Rattle.gq_plan_stmt.proofs.steps.+steps.Goals as goal

-- ---- statements

pub steps-loop-tree-init : goal.steps-loop-tree-init
steps-loop-tree-init t c = rw c.new-planned.ensures (in_none (resolved_stmts (globals_in c.args.globals.now) c.args.places.now (view_stmts c.args.trees.now)))

pub steps-loop-tree-preserved : goal.steps-loop-tree-preserved
steps-loop-tree-preserved t c =
    rw c.in_ok-push.ensures.ok
    (steps_next (globals_in c.args.globals.now) c.args.places.now c.loop-tree.places _ c.args.trees.now c.loop-tree.tree-index c.tree-item.result c.loop-tree.planned c.in_ok-one.one
    c.loop-tree-test.true c.tree-item.is c.loop-tree.invariant c.in_ok-one.ensures)

pub steps-returns-in_err-one : goal.steps-returns-in_err-one
steps-returns-in_err-one t c =
    answers_returned _ _ c.in_err-one.field-0.0 c.from_residual.result c.from_residual.ensures.1
    (λ k. steps_stop (globals_in c.args.globals.now) c.args.places.now c.loop-tree.places c.args.trees.now c.loop-tree.tree-index c.tree-item.result c.loop-tree.planned
    c.loop-tree-test.true c.tree-item.is c.loop-tree.invariant (c.in_err-one.ensures k))

pub steps-returns-in_err-push : goal.steps-returns-in_err-push
steps-returns-in_err-push t c = answers_returned _ _ fault.OutOfMemory c.from_residual-in_err-push.result c.from_residual-in_err-push.ensures.1 (λ k. absurd (k refl))

pub steps-returns : goal.steps-returns
steps-returns t c = steps_all (globals_in c.args.globals.now) c.args.places.now c.loop-tree.places c.args.trees.now c.loop-tree.tree-index c.loop-tree.planned c.loop-tree-test.false c.loop-tree.invariant

-- ---- bodies

pub body-returns-in_err-planned : goal.body-returns-in_err-planned
body-returns-in_err-planned t c =
    answers_returned _ _ c.in_err-planned.field-0.0 c.from_residual.result c.from_residual.ensures.1 (λ k. ap (body_of c.args.places.now) (c.in_err-planned.ensures k))

pub body-returns : goal.body-returns
body-returns t c =
    body_done (globals_in c.args.globals.now) c.args.places.now _ _ (view_stmts c.args.trees.now) c.in_ok-planned.planned c.len-before.result c.in_ok-planned.ensures c.len-before.ensures c.cut.ensures

pub else_body-returns-then-trees-gt0 : goal.else_body-returns-then-trees-gt0
else_body-returns-then-trees-gt0 t c =
    let full : 0 < length c.args.trees.now = omega (arith, c.if-trees-gt0.true) in
    else_full c.args.places.now c.args.trees.now (body_of c.args.places.now (resolved_stmts (globals_in c.args.globals.now) c.args.places.now (view_stmts c.args.trees.now))) full
    ∙ ap (λ o. o >>= λ b. Some (b.0, Some b.1)) c.in_ok-planned.ensures

pub else_body-returns : goal.else_body-returns
else_body-returns t c =
    let none : length c.args.trees.now ≤ 0 = omega (arith, c.if-trees-gt0.false) in
    else_empty c.args.places.now c.args.trees.now (body_of c.args.places.now (resolved_stmts (globals_in c.args.globals.now) c.args.places.now (view_stmts c.args.trees.now))) none

-- ---- FOREACH

pub foreach_step-returns-in_err-over : goal.foreach_step-returns-in_err-over
foreach_step-returns-in_err-over t c =
    answers_returned _ _ c.in_err-over.field-0.0 c.from_residual.result c.from_residual.ensures.1
    (λ k. foreach_over_stops (globals_in c.args.globals.now) c.args.places.now c.args.name.now (view_over c.args.tree.now) (view_stmts c.args.trees.now) (c.in_err-over.ensures k))

pub foreach_step-returns-in_err-place : goal.foreach_step-returns-in_err-place
foreach_step-returns-in_err-place t c =
    answers_returned _ _ c.in_err-place.field-0.0 c.from_residual-in_err-place.result c.from_residual-in_err-place.ensures.1
    (λ k. foreach_name_stops (globals_in c.args.globals.now) c.args.places.now c.args.name.now (view_over c.args.tree.now) (view_stmts c.args.trees.now) c.in_ok-over.over c.in_ok-over.ensures (c.in_err-place.ensures k))

pub foreach_step-returns-in_err-planned : goal.foreach_step-returns-in_err-planned
foreach_step-returns-in_err-planned t c =
    answers_returned _ _ c.in_err-planned.field-0.0 c.from_residual-in_err-planned.result c.from_residual-in_err-planned.ensures.1
    (λ k. foreach_body_stops (globals_in c.args.globals.now) c.args.places.now _ c.args.name.now (view_over c.args.tree.now) (view_stmts c.args.trees.now) c.in_ok-over.over c.in_ok-place.place c.in_ok-over.ensures c.in_ok-place.ensures (c.in_err-planned.ensures k))

pub foreach_step-returns : goal.foreach_step-returns
foreach_step-returns t c =
    foreach_done (globals_in c.args.globals.now) c.args.places.now _ _ _ c.args.name.now (view_over c.args.tree.now) (view_stmts c.args.trees.now) c.in_ok-over.over c.in_ok-place.place c.in_ok-planned.planned c.len-before.result
    c.in_ok-over.ensures c.in_ok-place.ensures c.in_ok-planned.ensures c.len-before.ensures c.cut.ensures

-- ---- IF

pub step-loop-branch-init : goal.step-loop-branch-init
step-loop-branch-init t c =
    rw c.new-planned.ensures (if_begins (globals_in c.args.globals.now) c.args.places.now c.args.tree.now c.in-If.branches c.as_slice-branch-items.result.now c.in-If.others c.in-If.is c.as_slice-branch-items.ensures)

pub step-loop-branch-preserved : goal.step-loop-branch-preserved
step-loop-branch-preserved t c =
    rw c.in_ok-push-in-If.ensures.ok
    (branch_next (globals_in c.args.globals.now) (resolved_stmt (globals_in c.args.globals.now) c.args.places.now (view_stmt c.args.tree.now)) c.loop-branch.places _ c.as_slice-branch-items.result.now c.in-If.others c.loop-branch.branch-index c.branch-item.result c.loop-branch.planned c.in_ok-test-in-If.test c.in_ok-body-in-If.body c.as_slice-in-loop-branch.result.now
    c.loop-branch-test.true c.branch-item.is c.as_slice-in-loop-branch.ensures c.loop-branch.invariant c.in_ok-test-in-If.ensures c.in_ok-body-in-If.ensures)

pub step-returns-in_err-test-in-If : goal.step-returns-in_err-test-in-If
step-returns-in_err-test-in-If t c =
    answers_returned _ _ c.in_err-test-in-If.field-0.0 c.from_residual.result c.from_residual.ensures.1
    (λ k. branch_test_stops (globals_in c.args.globals.now) (resolved_stmt (globals_in c.args.globals.now) c.args.places.now (view_stmt c.args.tree.now)) c.loop-branch.places c.as_slice-branch-items.result.now c.in-If.others c.loop-branch.branch-index c.branch-item.result c.loop-branch.planned
    c.loop-branch-test.true c.branch-item.is c.loop-branch.invariant (c.in_err-test-in-If.ensures k))

pub step-returns-in_err-body-in-If : goal.step-returns-in_err-body-in-If
step-returns-in_err-body-in-If t c =
    answers_returned _ _ c.in_err-body-in-If.field-0.0 c.from_residual-in_err-body-in-If.result c.from_residual-in_err-body-in-If.ensures.1
    (λ k. branch_body_stops (globals_in c.args.globals.now) (resolved_stmt (globals_in c.args.globals.now) c.args.places.now (view_stmt c.args.tree.now)) c.loop-branch.places c.as_slice-branch-items.result.now c.in-If.others c.loop-branch.branch-index c.branch-item.result c.loop-branch.planned c.in_ok-test-in-If.test c.as_slice-in-loop-branch.result.now
    c.loop-branch-test.true c.branch-item.is c.as_slice-in-loop-branch.ensures c.loop-branch.invariant c.in_ok-test-in-If.ensures (c.in_err-body-in-If.ensures k))

pub step-returns-in_err-push-in-If : goal.step-returns-in_err-push-in-If
step-returns-in_err-push-in-If t c = answers_returned _ _ fault.OutOfMemory c.from_residual-in_err-push-in-If.result c.from_residual-in_err-push-in-If.ensures.1 (λ k. absurd (k refl))

pub step-returns-in-None : goal.step-returns-in-None
step-returns-in-None t c =
    if_none (globals_in c.args.globals.now) (resolved_stmt (globals_in c.args.globals.now) c.args.places.now (view_stmt c.args.tree.now)) c.loop-branch.places c.as_slice-branch-items.result.now c.in-If.others c.loop-branch.branch-index c.loop-branch.planned
    c.loop-branch-test.false c.in-None.is c.loop-branch.invariant

pub step-returns-in_ok-others-in-Some : goal.step-returns-in_ok-others-in-Some
step-returns-in_ok-others-in-Some t c =
    if_else (globals_in c.args.globals.now) (resolved_stmt (globals_in c.args.globals.now) c.args.places.now (view_stmt c.args.tree.now)) c.loop-branch.places _ c.as_slice-branch-items.result.now c.in-If.others c.in-Some.trees c.as_slice-in-Some.result.now c.loop-branch.branch-index c.loop-branch.planned c.in_ok-others-in-Some.others
    c.loop-branch-test.false c.in-Some.is c.as_slice-in-Some.ensures c.loop-branch.invariant c.in_ok-others-in-Some.ensures

pub step-returns-in_err-others-in-Some : goal.step-returns-in_err-others-in-Some
step-returns-in_err-others-in-Some t c =
    answers_returned _ _ c.in_err-others-in-Some.field-0.0 c.from_residual-in_err-others-in-Some.result c.from_residual-in_err-others-in-Some.ensures.1
    (λ k. if_else_stops (globals_in c.args.globals.now) (resolved_stmt (globals_in c.args.globals.now) c.args.places.now (view_stmt c.args.tree.now)) c.loop-branch.places c.as_slice-branch-items.result.now c.in-If.others c.in-Some.trees c.as_slice-in-Some.result.now c.loop-branch.branch-index c.loop-branch.planned
    c.loop-branch-test.false c.in-Some.is c.as_slice-in-Some.ensures c.loop-branch.invariant (c.in_err-others-in-Some.ensures k))

-- ---- one statement

pub step-returns-in-Local : goal.step-returns-in-Local
step-returns-in-Local t c =
    let f = resolved_stmt (globals_in c.args.globals.now) c.args.places.now in
    answers_same _ _ _ c.local_step.result
    (ap f (ap view_stmt c.in-Local.is ∙ view_stmt-Local c.in-Local.base c.in-Local.trees) ∙ ap (λ (xs : List (plain.Bytes × Option Node)). f (plain.Local (view_base c.in-Local.base) (view_locals xs))) (sym c.as_slice.ensures)) c.local_step.ensures

pub step-returns-in-Assign : goal.step-returns-in-Assign
step-returns-in-Assign t c =
    let f = resolved_stmt (globals_in c.args.globals.now) c.args.places.now in
    answers_same _ _ _ c.assign.result
    (ap f (ap view_stmt c.in-Assign.is ∙ view_stmt-Assign c.in-Assign.name c.in-Assign.types c.in-Assign.tree)
    ∙ (ap (λ (x : plain.Bytes). f (plain.Assign x (option_map view_set_types c.in-Assign.types) (view_right c.in-Assign.tree))) (sym c.as_str.ensures)
    ∙ ap (λ (o : Option SetTypesTree). f (plain.Assign c.as_str.result.now (option_map view_set_types o) (view_right c.in-Assign.tree))) (sym c.as_ref.ensures.value)))
    c.assign.ensures

pub step-returns-in-Global : goal.step-returns-in-Global
step-returns-in-Global t c =
    let f = resolved_stmt (globals_in c.args.globals.now) c.args.places.now in
    answers_same _ _ _ c.global_step.result
    (ap f (ap view_stmt c.in-Global.is ∙ view_stmt-Global c.in-Global.name c.in-Global.tree) ∙ ap (λ (x : plain.Bytes). f (plain.ChangeGlobal x (view_change c.in-Global.tree))) (sym c.as_str-in-Global.ensures))
    c.global_step.ensures

pub step-returns-in-While : goal.step-returns-in-While
step-returns-in-While t c =
    let f = resolved_stmt (globals_in c.args.globals.now) c.args.places.now in
    answers_same _ _ _ c.while_step.result
    (ap f (ap view_stmt c.in-While.is ∙ view_stmt-While c.in-While.test c.in-While.limit c.in-While.trees)
    ∙ ap (λ (xs : List code.Stmt). f (plain.While (view c.in-While.test) (option_map view c.in-While.limit) (view_stmts xs))) (sym c.as_slice-in-While.ensures))
    c.while_step.ensures

pub step-returns-in-Foreach : goal.step-returns-in-Foreach
step-returns-in-Foreach t c =
    let f = resolved_stmt (globals_in c.args.globals.now) c.args.places.now in
    answers_same _ _ _ c.foreach_step.result
    (ap f (ap view_stmt c.in-Foreach.is ∙ view_stmt-Foreach c.in-Foreach.name c.in-Foreach.over c.in-Foreach.trees)
    ∙ (ap (λ (x : plain.Bytes). f (plain.Foreach x (view_over c.in-Foreach.over) (view_stmts c.in-Foreach.trees))) (sym c.as_str-in-Foreach.ensures)
    ∙ ap (λ (xs : List code.Stmt). f (plain.Foreach c.as_str-in-Foreach.result.now (view_over c.in-Foreach.over) (view_stmts xs))) (sym c.as_slice-in-Foreach.ensures)))
    c.foreach_step.ensures

pub step-returns-in-Print : goal.step-returns-in-Print
step-returns-in-Print t c =
    let f = resolved_stmt (globals_in c.args.globals.now) c.args.places.now in
    answers_same _ _ _ c.print_step.result
    (ap f (ap view_stmt c.in-Print.is ∙ view_stmt-Print c.in-Print.trees) ∙ ap (λ (xs : List ItemTree). f (plain.Print (view_items xs))) (sym c.as_slice-in-Print.ensures))
    c.print_step.ensures
