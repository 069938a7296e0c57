use Rattle.std.proofs.Common.{map, refl}
use Rattle.gq_rules_calendar.specs.Gregorian.{gregorian}
use Rattle.gq_plan_ir.specs.PlanView.{view_item}
use Rattle.gq_exec_control.specs.Contexts.{world_on}
use Rattle.gq_flow.proofs.PrintLemmas.{print_done, print_stops}
use Rattle.gq_flow.proofs.print.print_more.Goals as goal

pub returns-in-Err-clause-does : goal.returns-in-Err-clause-does
returns-in-Err-clause-does c = print_stops (world_on gregorian c.args.context.now) (map view_item c.args.items.now) c.args.r.now c.args.r.now c.in-Err.fault c.in-Err.ensures

pub returns-in-Ok-push-clause-does : goal.returns-in-Ok-push-clause-does
returns-in-Ok-push-clause-does c =
    print_done (world_on gregorian c.args.context.now) (map view_item c.args.items.now) c.args.r.now _ c.in-Ok.printed c.in-Ok.ensures refl refl c.in-Ok-push.ensures.ok
