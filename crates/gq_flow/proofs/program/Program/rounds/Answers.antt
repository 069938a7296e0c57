use Rattle.gq_plan_ir.specs.PlanView.{view_over}
use Rattle.gq_rules_calendar.specs.Gregorian.{gregorian}
use Rattle.gq_exec_control.specs.Contexts.{world_on}
use Rattle.gq_flow.proofs.ProgramLemmas.{rounds_go}
use Rattle.gq_flow.proofs.program.Program.rounds.Goals as goal

pub returns : goal.returns
returns g c = rounds_go (world_on gregorian c.args.self.now.context) (view_over c.args.over.now) c.args.r.now c.rounds.result c.rounds.ensures
