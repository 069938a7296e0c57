use Rattle.std.proofs.Common.{◌≡◌, ◌-◌}
use Rattle.gq_value.specs.Arithmetic.{IsWhole}
use Rattle.gq_value.specs.Views.{val}
use Rattle.gq_plan_ir.specs.Expressions.{minus}
use Rattle.gq_eval_operand.specs.Meant.{valued}
use Rattle.gq_eval_operand.proofs.operators.minus.Given as goal

abbrev pub invariant-loop-turn : goal.invariant-loop-turn
invariant-loop-turn l = (minus (l.count - l._turn) (val l.x) ≡ minus l.count (valued l.fn.operand)) × IsWhole (val l.x)
