use Rattle.std.proofs.Common.{ℕ, subst}
use Rattle.gq_rules_meaning.specs.Expressions.{number_of}
use Rattle.gq_rules_calendar.specs.Gregorian.{gregorian}
use Rattle.gq_plan_ir.specs.ExprView.{view}
use Rattle.gq_eval_operand.specs.Meant.{Tells, itself}
use Rattle.gq_eval_context.specs.Viewed.{Viewed}
use Rattle.gq_eval_context.specs.Looks.{look_of}
use Rattle.gq_eval_context.specs.Limits.{most_of}
use Rattle.gq_exec_control.proofs.limits.limit_over.Goals as goal

pub returns : goal.returns
returns c = subst (λ (v : Viewed). Tells (itself {A = ℕ}) (most_of (number_of (look_of gregorian v) (view c.args.limit.now))) c.limit_seen.result) c.eval_context-sight.ensures c.limit_seen.ensures
