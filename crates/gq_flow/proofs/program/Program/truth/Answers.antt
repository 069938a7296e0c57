use Rattle.gq_plan_ir.specs.ExprView.{view}
use Rattle.gq_rules_calendar.specs.Gregorian.{gregorian}
use Rattle.gq_exec_control.specs.Contexts.{world_on}
use Rattle.gq_flow.proofs.ProgramLemmas.{truth_tests}
use Rattle.gq_flow.proofs.program.Program.truth.Goals as goal

pub returns : goal.returns
returns g c = truth_tests (world_on gregorian c.args.self.now.context) (view c.args.condition.now) c.args.r.now c.truth.result c.truth.ensures
