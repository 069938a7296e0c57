use Rattle.std.specs.Option.{option_map}
use Rattle.gq_rules_calendar.specs.Gregorian.{gregorian}
use Rattle.gq_plan_ir.specs.ExprView.{view}
use Rattle.gq_plan_ir.specs.PlanView.{view_set_types}
use Rattle.gq_flow.proofs.AssignLemmas.{no_name, no_set, set_named_there}
use Rattle.gq_flow.proofs.named.assign_value.Goals as goal

pub returns-in-None-clause-names : goal.returns-in-None-clause-names
returns-in-None-clause-names c =
    no_name gregorian c.args.context.now c.args.place (option_map view_set_types c.args.types) (view c.args.expr.now) c.args.live.now c.assign_variable.new.live c.assign_variable.result c.in-None.ensures c.assign_variable.ensures.names

pub returns-in-Ok-None-clause-names : goal.returns-in-Ok-None-clause-names
returns-in-Ok-None-clause-names c =
    no_set gregorian c.args.context.now c.args.place (option_map view_set_types c.args.types) (view c.args.expr.now) c.args.live.now c.assign_variable-in-Ok-None.new.live c.in-Some.name c.assign_variable-in-Ok-None.result c.in-Some.ensures
    (rw c.in-Ok-None.field-0-is at c.in-Ok-None.ensures) c.assign_variable-in-Ok-None.ensures.names

pub returns-in-Ok-clause-names : goal.returns-in-Ok-clause-names
returns-in-Ok-clause-names c =
    set_named_there gregorian c.args.context.now c.args.place (option_map view_set_types c.args.types) (view c.args.expr.now) c.args.live.now c.give_set.new.live c.in-Some.name c.in-Ok-Some.set c.in-Some.ensures
    (rw c.in-Ok-Some.field-0-is at c.in-Ok-Some.ensures) c.in-Ok.ensures.names
