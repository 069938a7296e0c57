use Rattle.std.proofs.Common.{subst}
use Rattle.gq_rules_meaning.specs.Statements.{gone_over}
use Rattle.gq_rules_calendar.specs.Gregorian.{gregorian}
use Rattle.gq_plan_ir.specs.PlanView.{view_over}
use Rattle.gq_eval_operand.specs.Meant.{Tells}
use Rattle.gq_eval_context.specs.Viewed.{Viewed}
use Rattle.gq_eval_context.specs.Looks.{look_of}
use Rattle.gq_exec_control.specs.Values.{rounds_in}
use Rattle.gq_exec_control.proofs.over.rounds_over.Goals as goal

pub returns : goal.returns
returns c = subst (λ (v : Viewed). Tells rounds_in (gone_over (look_of gregorian v) (view_over c.args.over.now)) c.rounds_seen.result) c.eval_context-sight.ensures c.rounds_seen.ensures
