use Rattle.std.proofs.Common.{map, ap}
use Rattle.gq_value.specs.Views.{val}
use Rattle.gq_nest.proofs.EntryLemmas.{one_item}
use Rattle.gq_nest.proofs.ReadSteps.{lacks_none, lacks_long, gets_value}
use Rattle.gq_nest.proofs.content.Content.get.Goals as goal

pub returns-in-empty : goal.returns-in-empty
returns-in-empty c = lacks_none _ _ _ c.in-Map.is _ (rw c.as_slice.ensures at c.in-empty.len_below)

pub returns-in-len1 : goal.returns-in-len1
returns-in-len1 c = gets_value _ _ _ c.in-Map.is _ _ (ap (map val) (one_item _ _ _ c.as_slice.ensures c.in-len1.len_at_least c.in-len1.len_below c.key-item.is)) _ c.get.ensures.value

pub returns-in-len2-up : goal.returns-in-len2-up
returns-in-len2-up c = lacks_long _ _ _ c.in-Map.is _ (rw c.as_slice.ensures at c.in-len2-up.len_at_least)
