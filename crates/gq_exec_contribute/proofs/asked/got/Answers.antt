use Rattle.std.proofs.Common.{rules, subst}
use Rattle.std.specs.Prelude.{IfSome}
use Rattle.std.specs.Int.{w64}
use Rattle.std.proofs.lemmas.Int.{to_z-of_z}
use Rattle.gq_rules_calendar.specs.Gregorian.{gregorian}
use Rattle.gq_plan_ir.specs.declared.expr.Method.TheVariants as method
use Rattle.gq_exec_contribute.specs.Asked.{HasEntry}
use Rattle.gq_exec_contribute.proofs.AskedLemmas.{got_there, method_part}
use Rattle.gq_exec_contribute.proofs.asked.got.Goals as goal

pub returns-in-Some-content_at : goal.returns-in-Some-content_at
returns-in-Some-content_at c = got_there gregorian c.args.over.now c.args.leaves.now c.args.accums.now c.args.c.now c.args.slot c.args.vertex c.args.part.now c.in-Method.arguments c.as_slice.result.now c.in-Some.key c.in-Some-content_at.content.now c.entry.result (method_part c.args.part.now c.in-Method.method method.Get c.in-Method.arguments c.in-Method.is c.in-Get.is) c.as_slice.ensures c.in-Some.ensures c.in-Some-content_at.ensures
    (subst (λ x. IfSome c.entry.result (λ p. HasEntry c.in-Some-content_at.content.now x p.now)) (to_z-of_z w64 c.in-Some.key (search rules)) c.entry.ensures)
