use Rattle.std.proofs.Common.{map}
use Rattle.gq_rules_calendar.specs.Gregorian.{gregorian}
use Rattle.gq_plan_ir.specs.PlanView.{view_item}
use Rattle.gq_flow.proofs.PrintLemmas.{prints_over}
use Rattle.gq_flow.proofs.print.print_over.Goals as goal

pub returns : goal.returns
returns c = prints_over gregorian c.args.context.now c.args.frame.now (map view_item c.args.items.now) c.print.result c.block_context-over.result c.block_context-over.ensures c.print.ensures
