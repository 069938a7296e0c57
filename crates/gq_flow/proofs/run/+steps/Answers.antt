use Rattle.std.proofs.Common.{List, Option, Ok, Err, false, true, drop, refl, sym, ap, subst, ◌∙◌, arith}
use Rattle.std.specs.Option.{option_map}
use Rattle.gq_value.specs.Views.{val}
use Rattle.gq_rules_meaning.specs.Runs.{run, run_all}
use Rattle.gq_rules_calendar.specs.Gregorian.{gregorian}
use Rattle.gq_plan_ir.specs.declared.step.Step.{Step}
use Rattle.gq_plan_ir.specs.Reference.{Place}
use Rattle.gq_plan_ir.specs.ExprView.{view}
use Rattle.gq_plan_ir.specs.PlanView.{view_over, view_step, view_steps}
use Rattle.gq_exec_control.specs.declared.running.Running.{Running}
use Rattle.gq_exec_control.specs.declared.running.RunFault.TheVariants as fault
use Rattle.gq_exec_control.specs.Contexts.{world_on}
use Rattle.gq_exec_control.specs.Standing.{Goes}
use Rattle.gq_exec_control.specs.Values.{base_in, values_of}
use Rattle.gq_flow.specs.Bodies.{branches_from, named_body}
use Rattle.gq_flow.proofs.ControlLemmas.{does_returned, no_memory, tests_are, body_of, goes_none, step_done, step_stops, steps_done, body_done, body_stops, no_turn, turn_taken, named_done}
use Rattle.gq_flow.proofs.LoopLemmas.{branch_taken, branch_passed, branch_halts, else_done, else_none, rounds_begin, limit_ends, condition_ends, condition_halts, round_stops, round_done, while_unlimited, while_limited_at, while_halts_at, value_done, value_stops, values_done, foreach_halts, foreach_does, if_begins, while_step, foreach_step}
use Rattle.gq_flow.proofs.ProgramLemmas.{simple_changed, simple_declared}
use Rattle.gq_flow.proofs.run.+steps.Goals as goal

-- ---- statements

pub run_steps-loop-step-init : goal.run_steps-loop-step-init
run_steps-loop-step-init g t c = record { goes = goes_none _ _; sound = c.requires.sound; turns = omega arith }

pub run_steps-returns-in_err-run_step-clause-does : goal.run_steps-returns-in_err-run_step-clause-does
run_steps-returns-in_err-run_step-clause-does g t c =
    does_returned _ _ _ c.in_err-run_step.field-0.0 c.from_residual.result c.from_residual.ensures.1
    (step_stops (world_on gregorian c.args.program.now.context) c.args.steps.now c.loop-step.step-index c.step-item.result c.args.r.now c.loop-step.r c.run_step.new.r c.in_err-run_step.field-0.0
    c.loop-step-test.true c.step-item.is c.loop-step.invariant.goes c.in_err-run_step.ensures.does)

pub run_steps-loop-step-preserved : goal.run_steps-loop-step-preserved
run_steps-loop-step-preserved g t c = record {
  goes =
      step_done (world_on gregorian c.args.program.now.context) c.args.steps.now c.loop-step.step-index c.step-item.result c.args.r.now c.loop-step.r c.run_step.new.r
      c.loop-step-test.true c.step-item.is c.loop-step.invariant.goes c.in_ok-run_step.ensures.does;
  sound = c.in_ok-run_step.ensures.sound;
  turns = omega (arith, c.loop-step.invariant.turns, c.run_step.ensures.turns);
}

pub run_steps-returns-clause-does : goal.run_steps-returns-clause-does
run_steps-returns-clause-does g t c =
    steps_done (world_on gregorian c.args.program.now.context) c.args.steps.now c.loop-step.step-index c.args.r.now c.loop-step.r c.loop-step-test.false c.loop-step.invariant.goes

pub run_step-act-requires-in-Local-clause-simple : goal.run_step-act-requires-in-Local-clause-simple
run_step-act-requires-in-Local-clause-simple g t c κs within = simple_declared c.args.step.now c.in-Local.is

pub run_step-act-requires-clause-simple : goal.run_step-act-requires-clause-simple
run_step-act-requires-clause-simple g t c κs within = simple_changed c.args.step.now c.in-Global.is

pub run_step-loop-branch-init : goal.run_step-loop-branch-init
run_step-loop-branch-init g t c = record {
  goes = if_begins _ c.args.step.now c.in-If.branches c.as_slice-branch-items.result.now c.in-If.others c.args.r.now c.in-If.is c.as_slice-branch-items.ensures;
  sound = c.requires.sound;
  turns = omega arith;
}

pub run_step-loop-branch-preserved : goal.run_step-loop-branch-preserved
run_step-loop-branch-preserved g t c = record {
  goes =
      branch_passed (world_on gregorian c.args.program.now.context) _ c.as_slice-branch-items.result.now c.in-If.others c.loop-branch.branch-index c.branch-item.result c.args.r.now c.loop-branch.r
      c.loop-branch-test.true c.branch-item.is c.loop-branch.invariant.goes (tests_are _ _ c.in_ok-truth-in-If.field-0 false c.if-branch.false c.in_ok-truth-in-If.ensures);
  sound = c.loop-branch.invariant.sound;
  turns = c.loop-branch.invariant.turns;
}

pub run_step-returns-in_err-truth-in-If-clause-does : goal.run_step-returns-in_err-truth-in-If-clause-does
run_step-returns-in_err-truth-in-If-clause-does g t c =
    does_returned _ _ _ c.in_err-truth-in-If.field-0.0 c.from_residual.result c.from_residual.ensures.1
    (branch_halts (world_on gregorian c.args.program.now.context) (run (world_on gregorian c.args.program.now.context) (view_step c.args.step.now)) c.as_slice-branch-items.result.now c.in-If.others c.loop-branch.branch-index c.branch-item.result c.args.r.now c.loop-branch.r c.loop-branch.r c.in_err-truth-in-If.field-0.0
    c.loop-branch-test.true c.branch-item.is c.loop-branch.invariant.goes c.in_err-truth-in-If.ensures)

pub run_step-returns-then-branch-clause-does : goal.run_step-returns-then-branch-clause-does
run_step-returns-then-branch-clause-does g t c =
    branch_taken (world_on gregorian c.args.program.now.context) (run (world_on gregorian c.args.program.now.context) (view_step c.args.step.now)) c.as_slice-branch-items.result.now c.in-If.others c.loop-branch.branch-index c.branch-item.result c.args.r.now c.loop-branch.r c.run_body.new.r c.run_body.result
    c.loop-branch-test.true c.branch-item.is c.loop-branch.invariant.goes (tests_are _ _ c.in_ok-truth-in-If.field-0 true c.if-branch.true c.in_ok-truth-in-If.ensures)
    (body_of (world_on gregorian c.args.program.now.context) c.as_slice.result.now c.branch-item.result.1 c.loop-branch.r c.run_body.new.r c.run_body.result c.as_slice.ensures c.run_body.ensures.does)

pub run_step-returns-in-Some-clause-does : goal.run_step-returns-in-Some-clause-does
run_step-returns-in-Some-clause-does g t c =
    else_done (world_on gregorian c.args.program.now.context) (run (world_on gregorian c.args.program.now.context) (view_step c.args.step.now)) c.as_slice-branch-items.result.now c.in-Some.steps c.loop-branch.branch-index c.args.r.now c.loop-branch.r c.run_body-in-Some.new.r c.run_body-in-Some.result
    c.loop-branch-test.false
    (subst (λ (o : Option (List Step)). Goes (run (world_on gregorian c.args.program.now.context) (view_step c.args.step.now)) (branches_from (world_on gregorian c.args.program.now.context) (drop c.loop-branch.branch-index c.as_slice-branch-items.result.now) o) c.args.r.now c.loop-branch.r) c.in-Some.is c.loop-branch.invariant.goes)
    (body_of (world_on gregorian c.args.program.now.context) c.as_slice-in-Some.result.now c.in-Some.steps c.loop-branch.r c.run_body-in-Some.new.r c.run_body-in-Some.result c.as_slice-in-Some.ensures c.run_body-in-Some.ensures.does)

pub run_step-returns-in-None-clause-does : goal.run_step-returns-in-None-clause-does
run_step-returns-in-None-clause-does g t c =
    else_none (world_on gregorian c.args.program.now.context) (run (world_on gregorian c.args.program.now.context) (view_step c.args.step.now)) c.as_slice-branch-items.result.now c.loop-branch.branch-index c.args.r.now c.loop-branch.r c.loop-branch-test.false
    (subst (λ (o : Option (List Step)). Goes (run (world_on gregorian c.args.program.now.context) (view_step c.args.step.now)) (branches_from (world_on gregorian c.args.program.now.context) (drop c.loop-branch.branch-index c.as_slice-branch-items.result.now) o) c.args.r.now c.loop-branch.r) c.in-None.is c.loop-branch.invariant.goes)

pub run_step-returns-in-While-clause-does : goal.run_step-returns-in-While-clause-does
run_step-returns-in-While-clause-does g t c =
    while_step (world_on gregorian c.args.program.now.context) c.args.step.now c.in-While.condition c.in-While.limit c.in-While.body c.as_slice-in-While.result.now c.args.r.now c.run_while.new.r c.run_while.result
    c.in-While.is c.as_slice-in-While.ensures c.run_while.ensures.does

pub run_step-returns-in-Foreach-clause-does : goal.run_step-returns-in-Foreach-clause-does
run_step-returns-in-Foreach-clause-does g t c =
    foreach_step (world_on gregorian c.args.program.now.context) c.args.step.now c.in-Foreach.place c.in-Foreach.over c.in-Foreach.body c.as_slice-in-Foreach.result.now c.args.r.now c.run_foreach.new.r c.run_foreach.result
    c.in-Foreach.is c.as_slice-in-Foreach.ensures c.run_foreach.ensures.does

-- ---- bodies

pub run_body-returns-in_err-run_steps-clause-does : goal.run_body-returns-in_err-run_steps-clause-does
run_body-returns-in_err-run_steps-clause-does g t c =
    does_returned _ _ _ c.in_err-run_steps.field-0.0 c.from_residual.result c.from_residual.ensures.1
    (body_stops _ c.args.r.now c.run_steps.new.r c.run_steps.new.r c.in_err-run_steps.field-0.0 c.in_err-run_steps.ensures.does)

pub run_body-returns-clause-does : goal.run_body-returns-clause-does
run_body-returns-clause-does g t c =
    body_done (run_all (world_on gregorian c.args.program.now.context) (view_steps c.args.body.now)) c.mark-mark.result c.args.r.now c.run_steps.new.r _ c.in_ok-run_steps.ensures.does (record {
      marked = λ s l. c.mark-mark.ensures s l;
      left = λ s l. c.leave.ensures.names s l;
      accums = c.leave.ensures.accums;
      turns = refl;
      printed = refl;
    })

pub run_named-returns-in_err-base-clause-does : goal.run_named-returns-in_err-base-clause-does
run_named-returns-in_err-base-clause-does g t c = does_returned _ _ _ fault.OutOfMemory c.from_residual.result c.from_residual.ensures.1 (no_memory _ _ _)

pub run_named-returns-in_err-declare-clause-does : goal.run_named-returns-in_err-declare-clause-does
run_named-returns-in_err-declare-clause-does g t c = does_returned _ _ _ fault.OutOfMemory c.from_residual-in_err-declare.result c.from_residual-in_err-declare.ensures.1 (no_memory _ _ _)

pub run_named-returns-in_err-run_steps-clause-does : goal.run_named-returns-in_err-run_steps-clause-does
run_named-returns-in_err-run_steps-clause-does g t c =
    let body = run_all (world_on gregorian c.args.program.now.context) (view_steps c.args.body.now) in
    let mid : Running = record { live = c.declare.new.self; turns = c.args.r.now.turns; printed = c.args.r.now.printed } in
    does_returned _ _ _ c.in_err-run_steps.field-0.0 c.from_residual-in_err-run_steps.result c.from_residual-in_err-run_steps.ensures.1
    (body_stops (named_body (Place c.args.place) (base_in c.args.values.now, val c.args.value) body) c.args.r.now c.run_steps.new.r c.run_steps.new.r c.in_err-run_steps.field-0.0
    (named_done c.args.place c.in_ok-base.base (base_in c.args.values.now) c.args.value body c.args.r.now mid c.run_steps.new.r (Err c.in_err-run_steps.field-0.0) c.in_ok-base.ensures c.in_ok-declare.ensures.names c.declare.ensures.accums refl refl c.in_err-run_steps.ensures.does))

pub run_named-returns-clause-does : goal.run_named-returns-clause-does
run_named-returns-clause-does g t c =
    let body = run_all (world_on gregorian c.args.program.now.context) (view_steps c.args.body.now) in
    let mid : Running = record { live = c.declare.new.self; turns = c.args.r.now.turns; printed = c.args.r.now.printed } in
    body_done (named_body (Place c.args.place) (base_in c.args.values.now, val c.args.value) body) c.mark-names.result c.args.r.now c.run_steps.new.r _
    (named_done c.args.place c.in_ok-base.base (base_in c.args.values.now) c.args.value body c.args.r.now mid c.run_steps.new.r (Ok tt) c.in_ok-base.ensures c.in_ok-declare.ensures.names c.declare.ensures.accums refl refl c.in_ok-run_steps.ensures.does)
    (record {
      marked = λ s l. c.mark-names.ensures s l;
      left = λ s l. c.leave.ensures.names s l;
      accums = c.leave.ensures.accums;
      turns = refl;
      printed = refl;
    })

-- ---- turns

pub run_turn-returns-then-not-take_turn-clause-does : goal.run_turn-returns-then-not-take_turn-clause-does
run_turn-returns-then-not-take_turn-clause-does g t c = no_turn (run_all (world_on gregorian c.args.program.now.context) (view_steps c.args.body.now)) _ _ (c.take_turn.ensures.none c.if-not-take_turn.true)

pub run_turn-returns-clause-does : goal.run_turn-returns-clause-does
run_turn-returns-clause-does g t c = turn_taken _ c.args.r.now c.take_turn.new.r c.run_body.new.r c.run_body.result (c.take_turn.ensures.taken c.if-not-take_turn.false) c.run_body.ensures.does

pub run_value-returns-then-not-take_turn-clause-does : goal.run_value-returns-then-not-take_turn-clause-does
run_value-returns-then-not-take_turn-clause-does g t c = no_turn (named_body (Place c.args.place) (base_in c.args.values.now, val c.args.value) (run_all (world_on gregorian c.args.program.now.context) (view_steps c.args.body.now))) _ _ (c.take_turn.ensures.none c.if-not-take_turn.true)

pub run_value-returns-clause-does : goal.run_value-returns-clause-does
run_value-returns-clause-does g t c = turn_taken _ c.args.r.now c.take_turn.new.r c.run_named.new.r c.run_named.result (c.take_turn.ensures.taken c.if-not-take_turn.false) c.run_named.ensures.does

-- ---- WHILE

pub run_while-returns-in-None-clause-does : goal.run_while-returns-in-None-clause-does
run_while-returns-in-None-clause-does g t c = while_unlimited (world_on gregorian c.args.program.now.context) (view c.args.condition.now) c.args.limit.now (run_all (world_on gregorian c.args.program.now.context) (view_steps c.args.body.now)) _ _ c.run_rounds.result c.in-None.is c.run_rounds.ensures.does

pub run_while-returns-in_err-most-in-Some-clause-does : goal.run_while-returns-in_err-most-in-Some-clause-does
run_while-returns-in_err-most-in-Some-clause-does g t c =
    does_returned _ _ _ c.in_err-most-in-Some.field-0.0 c.from_residual.result c.from_residual.ensures.1
    (while_halts_at (world_on gregorian c.args.program.now.context) (view c.args.condition.now) c.args.limit.now c.in-Some.limit (run_all (world_on gregorian c.args.program.now.context) (view_steps c.args.body.now)) c.args.r.now c.args.r.now c.in_err-most-in-Some.field-0.0 c.in-Some.is c.in_err-most-in-Some.ensures)

pub run_while-returns-in_ok-most-in-Some-clause-does : goal.run_while-returns-in_ok-most-in-Some-clause-does
run_while-returns-in_ok-most-in-Some-clause-does g t c =
    while_limited_at (world_on gregorian c.args.program.now.context) (view c.args.condition.now) c.args.limit.now c.in-Some.limit (run_all (world_on gregorian c.args.program.now.context) (view_steps c.args.body.now)) c.in_ok-most-in-Some.most c.args.r.now c.run_rounds-in-Some.new.r c.run_rounds-in-Some.result c.in-Some.is c.in_ok-most-in-Some.ensures c.run_rounds-in-Some.ensures.does

pub run_rounds-round-init : goal.run_rounds-round-init
run_rounds-round-init g t c = record { goes = rounds_begin _ _ _ _; sound = c.requires.sound; turns = omega arith }

pub run_rounds-returns-in_err-truth-clause-does : goal.run_rounds-returns-in_err-truth-clause-does
run_rounds-returns-in_err-truth-clause-does g t c =
    does_returned _ _ _ c.in_err-truth.field-0.0 c.from_residual.result c.from_residual.ensures.1
    (condition_halts _ c.round.left _ _ c.args.r.now c.round.r c.round.r c.in_err-truth.field-0.0 c.round.invariant.goes (sym c.is_reached.ensures ∙ c.if-is_reached.false) c.in_err-truth.ensures)

pub run_rounds-returns-then-is_reached-clause-does : goal.run_rounds-returns-then-is_reached-clause-does
run_rounds-returns-then-is_reached-clause-does g t c = limit_ends _ c.round.left _ _ c.args.r.now c.round.r c.round.invariant.goes (sym c.is_reached.ensures ∙ c.if-is_reached.true)

pub run_rounds-returns-then-not-branch-clause-does : goal.run_rounds-returns-then-not-branch-clause-does
run_rounds-returns-then-not-branch-clause-does g t c =
    condition_ends _ c.round.left _ _ c.args.r.now c.round.r c.round.invariant.goes (sym c.is_reached.ensures ∙ c.if-is_reached.false)
    (tests_are _ _ c.in_ok-truth.field-0 false c.if-not-branch.true c.in_ok-truth.ensures)

pub run_rounds-returns-in_err-run_turn-clause-does : goal.run_rounds-returns-in_err-run_turn-clause-does
run_rounds-returns-in_err-run_turn-clause-does g t c =
    does_returned _ _ _ c.in_err-run_turn.field-0.0 c.from_residual-in_err-run_turn.result c.from_residual-in_err-run_turn.ensures.1
    (round_stops _ c.round.left _ _ c.args.r.now c.round.r c.run_turn.new.r c.run_turn.new.r c.in_err-run_turn.field-0.0 c.round.invariant.goes (sym c.is_reached.ensures ∙ c.if-is_reached.false)
    (tests_are _ _ c.in_ok-truth.field-0 true c.if-not-branch.false c.in_ok-truth.ensures) c.in_err-run_turn.ensures.does)

pub run_rounds-round-preserved : goal.run_rounds-round-preserved
run_rounds-round-preserved g t c = record {
  goes =
      round_done _ c.round.left c.one_less-left.result _ _ c.args.r.now c.round.r c.run_turn.new.r c.round.invariant.goes (sym c.is_reached.ensures ∙ c.if-is_reached.false)
      (tests_are _ _ c.in_ok-truth.field-0 true c.if-not-branch.false c.in_ok-truth.ensures) c.in_ok-run_turn.ensures.does c.in_ok-run_turn.ensures.fewer c.one_less-left.ensures;
  sound = c.in_ok-run_turn.ensures.sound;
  turns = omega (arith, c.round.invariant.turns, c.run_turn.ensures.turns);
}

-- ---- FOREACH

pub run_foreach-returns-in_err-values-clause-does : goal.run_foreach-returns-in_err-values-clause-does
run_foreach-returns-in_err-values-clause-does g t c =
    does_returned _ _ _ c.in_err-values.field-0.0 c.from_residual.result c.from_residual.ensures.1 (foreach_halts (world_on gregorian c.args.program.now.context) c.args.place (view_over c.args.over.now) (run_all (world_on gregorian c.args.program.now.context) (view_steps c.args.body.now)) c.args.r.now c.args.r.now c.in_err-values.field-0.0 c.in_err-values.ensures)

pub run_foreach-returns-clause-does : goal.run_foreach-returns-clause-does
run_foreach-returns-clause-does g t c = foreach_does (world_on gregorian c.args.program.now.context) c.args.place (view_over c.args.over.now) (run_all (world_on gregorian c.args.program.now.context) (view_steps c.args.body.now)) c.in_ok-values.values c.args.r.now c.run_values.new.r c.run_values.result c.in_ok-values.ensures c.run_values.ensures.does

pub run_values-value-init : goal.run_values-value-init
run_values-value-init g t c = record { goes = goes_none _ _; sound = c.requires.sound; turns = omega arith }

pub run_values-returns-in_err-at-clause-does : goal.run_values-returns-in_err-at-clause-does
run_values-returns-in_err-at-clause-does g t c = does_returned _ _ _ fault.OutOfMemory c.from_residual.result c.from_residual.ensures.1 (no_memory _ _ _)

pub run_values-returns-in-None-clause-does : goal.run_values-returns-in-None-clause-does
run_values-returns-in-None-clause-does g t c =
    values_done (Place c.args.place) (run_all (world_on gregorian c.args.program.now.context) (view_steps c.args.body.now)) (base_in c.args.values.now) (values_of c.args.values.now) c.value.at c.args.r.now c.value.r (c.in_ok-at.ensures ∙ ap (option_map val) c.in-None.is) c.value.invariant.goes

pub run_values-returns-in_err-run_value-in-Some-clause-does : goal.run_values-returns-in_err-run_value-in-Some-clause-does
run_values-returns-in_err-run_value-in-Some-clause-does g t c =
    does_returned _ _ _ c.in_err-run_value-in-Some.field-0.0 c.from_residual-in_err-run_value-in-Some.result c.from_residual-in_err-run_value-in-Some.ensures.1
    (value_stops (Place c.args.place) (run_all (world_on gregorian c.args.program.now.context) (view_steps c.args.body.now)) (base_in c.args.values.now) (values_of c.args.values.now) c.value.at (val c.in-Some.value) c.args.r.now c.value.r c.run_value.new.r c.in_err-run_value-in-Some.field-0.0
    (c.in_ok-at.ensures ∙ ap (option_map val) c.in-Some.is) c.value.invariant.goes c.in_err-run_value-in-Some.ensures.does)

pub run_values-value-preserved : goal.run_values-value-preserved
run_values-value-preserved g t c = record {
  goes =
      value_done (Place c.args.place) (run_all (world_on gregorian c.args.program.now.context) (view_steps c.args.body.now)) (base_in c.args.values.now) (values_of c.args.values.now) c.value.at (val c.in-Some.value) c.args.r.now c.value.r c.run_value.new.r
      (c.in_ok-at.ensures ∙ ap (option_map val) c.in-Some.is) c.value.invariant.goes c.in_ok-run_value-in-Some.ensures.does;
  sound = c.in_ok-run_value-in-Some.ensures.sound;
  turns = omega (arith, c.value.invariant.turns, c.in_ok-run_value-in-Some.ensures.fewer);
}

pub run_values-overflow_add-at : goal.run_values-overflow_add-at
run_values-overflow_add-at g t c =
    omega (arith, c.turns_left-most.type_inv, c.turns_left-most.ensures, c.value.invariant.turns, c.in_ok-run_value-in-Some.ensures.fewer)
