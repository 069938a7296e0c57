use Rattle.gq_plan_ir.specs.ExprView.{view}
use Rattle.gq_rules_calendar.specs.Gregorian.{gregorian}
use Rattle.gq_exec_control.specs.Contexts.{world_on}
use Rattle.gq_flow.proofs.ProgramLemmas.{limit_limits}
use Rattle.gq_flow.proofs.program.Program.limit.Goals as goal

pub returns : goal.returns
returns g c = limit_limits (world_on gregorian c.args.self.now.context) (view c.args.most.now) c.args.r.now c.limit.result c.limit.ensures
