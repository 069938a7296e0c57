use Rattle.std.proofs.Common.{ℕ, Option, subst}
use Rattle.gq_value.specs.Views.{val}
use Rattle.gq_rules_meaning.specs.Expressions.{value_of}
use Rattle.gq_rules_calendar.specs.Gregorian.{gregorian}
use Rattle.gq_plan_ir.specs.ExprView.{view}
use Rattle.gq_eval_operand.specs.Meant.{Tells}
use Rattle.gq_frame.specs.Names.{Placed}
use Rattle.gq_eval_context.specs.Viewed.{viewed}
use Rattle.gq_eval_context.specs.Looks.{look_of}
use Rattle.gq_after.specs.Sights.{one_alias}
use Rattle.gq_after.proofs.keys.evaluated_at.Goals as goal

pub returns-in-Some : goal.returns-in-Some
returns-in-Some c =
    subst (λ (o : Option (ℕ × Placed)). Tells val (value_of (look_of gregorian (viewed c.args.over.now (one_alias o) c.args.accums.now c.args.accums.now)) (view c.args.expr.now)) c.value_under.result)
    c.in-Some.ensures c.value_under.ensures

pub returns-in-None : goal.returns-in-None
returns-in-None c =
    subst (λ (o : Option (ℕ × Placed)). Tells val (value_of (look_of gregorian (viewed c.args.over.now (one_alias o) c.args.accums.now c.args.accums.now)) (view c.args.expr.now)) c.value_under-in-None.result)
    c.in-None.ensures c.value_under-in-None.ensures
