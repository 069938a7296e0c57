use Rattle.std.proofs.Common.{map}
use Rattle.gq_rules_calendar.specs.Gregorian.{gregorian}
use Rattle.gq_plan_ir.specs.PlanView.{view_item}
use Rattle.gq_exec_control.specs.Contexts.{world_on}
use Rattle.gq_flow.proofs.PrintLemmas.{one_printed}
use Rattle.gq_flow.proofs.print.printed.Goals as goal

pub returns : goal.returns
returns c = one_printed (world_on gregorian c.args.context.now) (map view_item c.args.items.now) c.args.frame.now c.print_over.result c.or_fault.result c.or_fault.ensures c.print_over.ensures
