use Rattle.std.proofs.Common.{sym, ap, ◌∙◌}
use Rattle.std.specs.Option.{option_map}
use Rattle.gq_plan_ir.specs.declared.expr.Function.TheVariants as function
use Rattle.gq_plan_expr.specs.Found.{own_if}
use Rattle.gq_plan_expr.proofs.TupleLemmas.{own_named}
use Rattle.gq_plan_expr.proofs.functions.own_function.Goals as goal

pub returns-in-None : goal.returns-in-None
returns-in-None c = ap (option_map function.Own) (sym c.in-None.is) ∙ own_named c.builtin_named.result ∙ ap own_if c.builtin_named.ensures

pub returns-in-Some : goal.returns-in-Some
returns-in-Some c = ap (option_map function.Own) (sym c.in-Some.is) ∙ own_named c.builtin_named.result ∙ ap own_if c.builtin_named.ensures
