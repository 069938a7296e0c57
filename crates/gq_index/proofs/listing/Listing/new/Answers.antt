use Rattle.std.proofs.Common.{map, ap}
use Rattle.gq_index.specs.Segments.{of_walk}
use Rattle.gq_index.proofs.RunLemmas.{none_held, none_shown}
use Rattle.gq_index.proofs.listing.Listing.new.Goals as goal

pub invariant_of-result : goal.invariant_of-result
invariant_of-result c = none_held c.new.result.items c.new-2.result.items c.new.ensures.items c.new-2.ensures.items

pub returns : goal.returns
returns c = ap (map of_walk) (none_shown c.new.result.items c.new-2.result.items c.new.ensures.items c.new-2.ensures.items)
