use Rattle.std.proofs.Common.{rules, subst}
use Rattle.std.specs.Prelude.{IfSome}
use Rattle.std.specs.Int.{w64}
use Rattle.std.proofs.lemmas.Int.{to_z-of_z}
use Rattle.gq_rules_calendar.specs.Gregorian.{gregorian}
use Rattle.gq_plan_ir.specs.declared.expr.Method.TheVariants as method
use Rattle.gq_exec_contribute.specs.Asked.{HoldsKey}
use Rattle.gq_exec_contribute.proofs.AskedLemmas.{key_asked, method_part}
use Rattle.gq_exec_contribute.proofs.asked.held_key.Goals as goal

pub returns-in-Some-content_at : goal.returns-in-Some-content_at
returns-in-Some-content_at c = key_asked gregorian c.args.over.now c.args.leaves.now c.args.accums.now c.args.c.now c.args.slot c.args.vertex c.args.part.now c.in-Method.arguments c.as_slice.result.now c.in-Some.key c.in-Some-content_at.content.now c.has_key.result (method_part c.args.part.now c.in-Method.method method.ContainsKey c.in-Method.arguments c.in-Method.is c.in-ContainsKey.is) c.as_slice.ensures c.in-Some.ensures c.in-Some-content_at.ensures
    (subst (λ x. IfSome c.has_key.result (HoldsKey c.in-Some-content_at.content.now x)) (to_z-of_z w64 c.in-Some.key (search rules)) c.has_key.ensures)
