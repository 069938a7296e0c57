use Rattle.std.proofs.Common.{subst}
use Rattle.gq_value.specs.Views.{val}
use Rattle.gq_rules_meaning.specs.Expressions.{value_of}
use Rattle.gq_rules_calendar.specs.Gregorian.{gregorian}
use Rattle.gq_plan_ir.specs.ExprView.{view}
use Rattle.gq_eval_operand.specs.Meant.{Tells}
use Rattle.gq_eval_context.specs.Viewed.{Viewed}
use Rattle.gq_eval_context.specs.Looks.{look_of}
use Rattle.gq_after.proofs.keys.value_under.Goals as goal

pub returns : goal.returns
returns c = subst (λ (v : Viewed). Tells val (value_of (look_of gregorian v) (view c.args.expr.now)) c.value_seen.result) c.eval_context-sight.ensures c.value_seen.ensures
