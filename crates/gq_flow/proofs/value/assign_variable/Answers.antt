use Rattle.gq_value.specs.AccumViews.{base_of}
use Rattle.gq_rules_calendar.specs.Gregorian.{gregorian}
use Rattle.gq_plan_ir.specs.ExprView.{view}
use Rattle.gq_flow.proofs.AssignLemmas.{value_given, value_sticks, value_stops}
use Rattle.gq_flow.proofs.value.assign_variable.Goals as goal

pub returns-in-Ok-None-clause-names : goal.returns-in-Ok-None-clause-names
returns-in-Ok-None-clause-names c =
    value_sticks gregorian c.args.context.now c.args.place (view c.args.expr.now) c.args.live.now c.args.live.now (rw c.in-Ok-None.field-0-is at c.in-Ok-None.ensures)

pub returns-in-Err-converted_value-clause-names : goal.returns-in-Err-converted_value-clause-names
returns-in-Err-converted_value-clause-names c =
    value_stops gregorian c.args.context.now c.args.place (view c.args.expr.now) (base_of c.in-Ok-Some.base) c.args.live.now c.args.live.now (rw c.in-Ok-Some.field-0-is at c.in-Ok-Some.ensures)
    c.in-Err-converted_value.fault c.in-Err-converted_value.ensures

pub returns-in-Ok-assign-clause-names : goal.returns-in-Ok-assign-clause-names
returns-in-Ok-assign-clause-names c =
    value_given gregorian c.args.context.now c.args.place (view c.args.expr.now) (base_of c.in-Ok-Some.base) c.args.live.now c.assign.new.self (rw c.in-Ok-Some.field-0-is at c.in-Ok-Some.ensures)
    c.in-Ok.value c.in-Ok.ensures c.in-Ok-assign.ensures.names
