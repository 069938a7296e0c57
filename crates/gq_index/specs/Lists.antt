-- Lists: the ways from each vertex, however they are kept.
use Rattle.std.specs.Prelude.{List, map}
use Rattle.gq_index.specs.declared.lists.Lists.{Lists}
use Rattle.gq_index.specs.declared.lists.Lists.TheVariants.{Together, Apart}
use Rattle.gq_index.specs.declared.walks.Neighbor.{Neighbor}

-- the ways from each vertex
abbrev pub lists_of : Lists → List (List Neighbor)
lists_of (Together packed) = packed
lists_of (Apart lists) = map (λ list. list.items) lists.items
