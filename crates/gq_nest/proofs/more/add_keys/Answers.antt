use Rattle.std.specs.Map.Iter.{deref}
use Rattle.std.proofs.lemmas.Map.Iter.{rest_more}
use Rattle.gq_nest.proofs.SetSteps.{keys_step}
use Rattle.gq_nest.proofs.more.add_keys.Goals as goal

pub loop-key-preserved : goal.loop-key-preserved
loop-key-preserved c = keys_step _ _ c.loop-key.keys.keys c.add_key.new.keys.keys _ _ (rest_more deref _ _ _ _ c.in-Some.is c.next.ensures.steps) c.in_ok-add_key.ensures c.loop-key.invariant
