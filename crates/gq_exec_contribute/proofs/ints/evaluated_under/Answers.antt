use Rattle.std.proofs.Common.{IfSome, map, ap, subst}
use Rattle.gq_rules_calendar.specs.Gregorian.{gregorian}
use Rattle.gq_frame.specs.declared.accums.Accums.{Accums}
use Rattle.gq_frame.specs.Names.{alias_of}
use Rattle.gq_plan_ir.specs.ExprView.{view}
use Rattle.gq_eval_context.specs.Viewed.{Over, Viewed, viewed}
use Rattle.gq_eval_context.specs.Looks.{look_of}
use Rattle.gq_exec_contribute.specs.Prepared.{IsInt}
use Rattle.gq_exec_contribute.proofs.ints.evaluated_under.Goals as goal

pub returns : goal.returns
returns c = subst (λ (a : Accums). IfSome c.evaluated_int.result (IsInt (look_of gregorian (viewed c.args.over.now (map alias_of c.args.aliases.now) c.args.accums.now a)) (view c.args.expr.now)))
    (ap (λ (o : Over). o.frame.accums) c.over.view_is)
    (subst (λ (v : Viewed). IfSome c.evaluated_int.result (IsInt (look_of gregorian v) (view c.args.expr.now))) c.eval_context-sight.ensures c.evaluated_int.ensures)
