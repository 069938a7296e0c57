use Rattle.std.proofs.Common.{arith}
use Rattle.std.proofs.lemmas.Bool.Decides.{nat_tests}
use Rattle.gq_plan_ir.specs.declared.expr.Method.TheVariants as method
use Rattle.gq_exec_contribute.proofs.AskedLemmas.{method_part, size_is}
use Rattle.gq_exec_contribute.proofs.asked.is_size.Goals as goal

pub returns-in-Size : goal.returns-in-Size
returns-in-Size c =
    λ none. let count = c.len.ensures in
    size_is c.args.part.now c.in-Method.arguments (method_part c.args.part.now c.in-Method.method method.Size c.in-Method.arguments c.in-Method.is c.in-Size.is) (grind (arith, nat_tests))
