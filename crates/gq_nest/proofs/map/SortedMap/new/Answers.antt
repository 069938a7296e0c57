use Rattle.gq_nest.proofs.Seeks.{none_sorted}
use Rattle.gq_nest.proofs.map.SortedMap.new.Goals as goal

pub invariant_of-result : goal.invariant_of-result
invariant_of-result g c = none_sorted _ _ c.new.ensures.items

pub returns-clause-ordered : goal.returns-clause-ordered
returns-clause-ordered g c = none_sorted _ _ c.new.ensures.items
