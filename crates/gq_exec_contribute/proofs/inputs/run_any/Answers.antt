use Rattle.std.proofs.Common.{rules}
use Rattle.gq_value.specs.AccumViews.{accum_of}
use Rattle.gq_plan_ir.specs.ExprView.{view}
use Rattle.gq_eval_operand.specs.Meant.{valued}
use Rattle.gq_exec_contribute.proofs.InputLemmas.{number_taken}
use Rattle.gq_exec_contribute.proofs.inputs.run_any.Goals as goal

pub returns-in_ok-own-in-Some-Number : goal.returns-in_ok-own-in-Some-Number
returns-in_ok-own-in-Some-Number g c = number_taken (g.V.Sees.look c.args.sight.now) (accum_of c.args.kind.now) (view c.args.expr.now) c.in-Some-Number.number (valued c.in_ok-value-in-Some-Number.value) (valued c.in_ok-value-in-Some-Number-2.value) c.in_ok-own-in-Some-Number.field-0 (search rules) (search rules) (search rules) (search rules)
