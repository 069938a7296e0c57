use Rattle.std.proofs.Common.{map, ap, subst, Some}
use Rattle.gq_value.specs.AccumViews.{accum_of}
use Rattle.gq_rules_meaning.specs.Queries.{opening}
use Rattle.gq_rules_calendar.specs.Gregorian.{gregorian}
use Rattle.gq_frame.specs.declared.accums.Accums.{Accums}
use Rattle.gq_plan_ir.specs.ExprView.{view}
use Rattle.gq_eval_operand.specs.Meant.{Tells}
use Rattle.gq_frame.specs.Names.{alias_of}
use Rattle.gq_eval_context.specs.Viewed.{Over, Viewed, viewed}
use Rattle.gq_eval_context.specs.Looks.{look_of}
use Rattle.gq_exec_vars.specs.Begun.{sets}
use Rattle.gq_exec_vars.proofs.values.value_over.Goals as goal

pub returns-clause-told : goal.returns-clause-told
returns-clause-told c =
    subst (λ (a : Accums). Tells (sets (accum_of c.args.kind.now)) (opening (look_of gregorian (viewed c.args.over.now (map alias_of c.args.aliases.now) a a)) (accum_of c.args.kind.now) (Some (view c.args.expr.now))) c.value_seen.result)
    (ap (λ (o : Over). o.frame.accums) c.over.view_is)
    (subst (λ (v : Viewed). Tells (sets (accum_of c.args.kind.now)) (opening (look_of gregorian v) (accum_of c.args.kind.now) (Some (view c.args.expr.now))) c.value_seen.result) c.eval_context-sight.ensures c.value_seen.ensures.told)
