use Rattle.std.proofs.Common.{ap, map, subst, rules}
use Rattle.gq_value.specs.AccumViews.{accum_of}
use Rattle.gq_rules_meaning.specs.Writes.{made_by}
use Rattle.gq_rules_calendar.specs.Gregorian.{gregorian}
use Rattle.gq_plan_ir.specs.BlockView.{view_change}
use Rattle.gq_eval_operand.specs.Meant.{Tells}
use Rattle.gq_frame.specs.declared.accums.Accums.{Accums}
use Rattle.gq_frame.specs.Names.{alias_of}
use Rattle.gq_eval_context.specs.Viewed.{Over, Viewed, viewed}
use Rattle.gq_eval_context.specs.Looks.{look_of}
use Rattle.gq_exec_post.specs.Making.{making_of}
use Rattle.gq_exec_post.specs.Sights.{look_now}
use Rattle.gq_exec_post.proofs.WriteLemmas.{made_there}
use Rattle.gq_exec_post.proofs.acts.evaluated_made.Goals as goal

pub returns-in-Some : goal.returns-in-Some
returns-in-Some c =
    made_there (look_now gregorian c.args.over.now (map alias_of c.args.aliases.now) c.args.accums.now) c.args.accums.now c.args.slot (view_change c.args.change.now) c.in-Some.declared.now c.made_by.result (search rules)
    (subst (λ (a : Accums). Tells making_of (made_by (look_of gregorian (viewed c.args.over.now (map alias_of c.args.aliases.now) c.args.accums.now a)) (accum_of c.in-Some.declared.now.kind) (view_change c.args.change.now)) c.made_by.result)
    (ap (λ (o : Over). o.frame.accums) c.over.view_is)
    (subst (λ (v : Viewed). Tells making_of (made_by (look_of gregorian v) (accum_of c.in-Some.declared.now.kind) (view_change c.args.change.now)) c.made_by.result) c.eval_context-sight.ensures c.made_by.ensures))
