use Rattle.gq_rules_meaning.specs.Statements.{gone_over}
use Rattle.gq_rules_calendar.specs.Gregorian.{gregorian}
use Rattle.gq_plan_ir.specs.PlanView.{view_over}
use Rattle.gq_exec_control.specs.Values.{rounds_in}
use Rattle.gq_exec_control.proofs.ContextLemmas.{reads_on}
use Rattle.gq_exec_control.proofs.over.rounds.Goals as goal

pub returns : goal.returns
returns c = reads_on gregorian c.args.context.now c.args.frame.now rounds_in (λ look. gone_over look (view_over c.args.over.now)) c.rounds_over.result c.or_fault.result c.rounds_over.ensures c.or_fault.ensures
