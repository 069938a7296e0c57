use Rattle.std.proofs.Common.{◌≡◌, ◌-◌}
use Rattle.gq_plan_ir.specs.Expressions.{nots}
use Rattle.gq_eval_operand.proofs.operators.nots.Given as goal

abbrev pub invariant-loop-turn : goal.invariant-loop-turn
invariant-loop-turn l = nots (l.count - l._turn) l.turned ≡ nots l.count l.truth
