use Rattle.std.proofs.Common.{◌∙◌}
use Rattle.gq_value.specs.Views.{val}
use Rattle.gq_eval_operand.proofs.OperatorLemmas.{minus_stops, minus_end}
use Rattle.gq_eval_operand.proofs.operators.minus.Goals as goal

pub returns-in-Err-Wrong : goal.returns-in-Err-Wrong
returns-in-Err-Wrong c = minus_stops c.args.count c.loop-turn._turn (val c.loop-turn.x) c.in-Err-Wrong.wrong _ c.loop-turn-test.true c.loop-turn.invariant.1 (rw c.in-Err-Wrong.field-0-is at c.in-Err-Wrong.ensures) c.loop-turn.invariant.0

pub returns : goal.returns
returns c = minus_end c.args.count c.loop-turn._turn (val c.loop-turn.x) _ c.loop-turn-test.false c.loop-turn.invariant.0 ∙ c.numbered-2.ensures
