use Rattle.gq_workers.proofs.FoundLemmas.{ints_at}
use Rattle.gq_workers.proofs.found.add_inputs.Goals as goal

pub loop-place-preserved : goal.loop-place-preserved
loop-place-preserved c = ints_at c.args.inputs.now c.loop-place.place _ c.in_ok-input_of.field-0 c.args.into.now c.loop-place.into c.add.new.self c.at-target.ensures c.in_ok-input_of.ensures c.in_ok-add.ensures.ok c.loop-place.invariant
