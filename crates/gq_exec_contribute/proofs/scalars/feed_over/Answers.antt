use Rattle.gq_exec_contribute.proofs.ScalarLemmas.{fed_first, fed_next}
use Rattle.gq_exec_contribute.proofs.scalars.feed_over.Goals as goal

pub loop-place-init : goal.loop-place-init
loop-place-init c = fed_first c.args.accums.now c.args.inputs.now

pub loop-place-preserved : goal.loop-place-preserved
loop-place-preserved c = fed_next c.args.accums.now c.loop-place.accums c.feed_scalar.new.accums c.args.inputs.now c.loop-place.place _ c.lent_at-target.ensures c.in_ok-feed_scalar.ensures c.loop-place.invariant
