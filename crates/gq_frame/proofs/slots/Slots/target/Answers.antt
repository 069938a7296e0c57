use Rattle.std.proofs.Common.{arith, ◌∙◌}
use Rattle.gq_frame.proofs.TargetLemmas.{counts_more, counts_all}
use Rattle.gq_frame.proofs.slots.Slots.target.Goals as goal

pub loop-before-preserved : goal.loop-before-preserved
loop-before-preserved c = counts_more _ _ _ _ _ _ c.loop-before-test.true c.before-item.is (grind arith) (c.from-number.ensures ∙ c.targets.ensures) c.loop-before.invariant

pub returns : goal.returns
returns c = counts_all _ _ _ _ _ _ _ _ c.as_slice.ensures c.loop-before-test.false c.from.ensures c.loop-before.invariant
