use Rattle.gq_rules_calendar.specs.Gregorian.{gregorian}
use Rattle.gq_plan_ir.specs.BlockView.{view_change}
use Rattle.gq_exec_control.specs.Contexts.{look_on}
use Rattle.gq_flow.proofs.ChangeLemmas.{makes_told}
use Rattle.gq_flow.proofs.change.made_over.Goals as goal

pub returns-in-Some : goal.returns-in-Some
returns-in-Some c = makes_told (look_on gregorian c.args.context.now c.args.frame.now) c.args.frame.now.accums c.args.slot (view_change c.args.change.now) c.in-Some.declared.now c.made_of.result c.in-Some.ensures c.made_of.ensures
