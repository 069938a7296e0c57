use Rattle.gq_nest.proofs.Seeks.{none_sorted}
use Rattle.gq_nest.proofs.map.SortedMap.with_capacity.Goals as goal

pub invariant_of-result : goal.invariant_of-result
invariant_of-result g c = none_sorted _ _ c.in_ok-with_capacity.ensures
