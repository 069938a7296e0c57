use Rattle.std.proofs.Common.{Bool, ap, map, subst}
use Rattle.gq_rules_meaning.specs.Expressions.{truth_of}
use Rattle.gq_rules_calendar.specs.Gregorian.{gregorian}
use Rattle.gq_plan_ir.specs.ExprView.{view}
use Rattle.gq_eval_operand.specs.Meant.{itself, Tells}
use Rattle.gq_frame.specs.declared.accums.Accums.{Accums}
use Rattle.gq_frame.specs.Names.{alias_of}
use Rattle.gq_eval_context.specs.Viewed.{Over, Viewed, viewed}
use Rattle.gq_eval_context.specs.Looks.{look_of}
use Rattle.gq_exec_post.proofs.acts.evaluated_truth.Goals as goal

-- the frame's accumulators in the context are those that it shows
pub returns : goal.returns
returns c =
    subst (λ (a : Accums). Tells (itself {A = Bool}) (truth_of (look_of gregorian (viewed c.args.over.now (map alias_of c.args.aliases.now) c.args.accums.now a)) (view c.args.expr.now)) c.run_truth.result)
    (ap (λ (o : Over). o.frame.accums) c.over.view_is)
    (subst (λ (v : Viewed). Tells (itself {A = Bool}) (truth_of (look_of gregorian v) (view c.args.expr.now)) c.run_truth.result) c.eval_context-sight.ensures c.run_truth.ensures)
