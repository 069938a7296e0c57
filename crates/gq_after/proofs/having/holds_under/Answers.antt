use Rattle.std.proofs.Common.{Bool, subst}
use Rattle.gq_rules_meaning.specs.Expressions.{truth_of}
use Rattle.gq_rules_calendar.specs.Gregorian.{gregorian}
use Rattle.gq_plan_ir.specs.ExprView.{view}
use Rattle.gq_eval_operand.specs.Meant.{itself, Tells}
use Rattle.gq_eval_context.specs.Viewed.{Viewed}
use Rattle.gq_eval_context.specs.Looks.{look_of}
use Rattle.gq_after.proofs.having.holds_under.Goals as goal

pub returns : goal.returns
returns c = subst (λ (v : Viewed). Tells (itself {A = Bool}) (truth_of (look_of gregorian v) (view c.args.expr.now)) c.run_truth.result) c.eval_context-sight.ensures c.run_truth.ensures
