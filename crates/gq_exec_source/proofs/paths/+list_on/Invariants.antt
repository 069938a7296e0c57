use Rattle.std.proofs.Common.{◌≡◌, ◌≤◌, ◌++◌, length, map, take}
use Rattle.std.specs.List.{flat_map}
use Rattle.gq_index.specs.Segments.{of_walk}
use Rattle.gq_exec_source.specs.Hops.{on_along, walks_on}
use Rattle.gq_exec_source.proofs.paths.+list_on.Given as goal

abbrev pub decreases-list_on : goal.decreases-list_on
decreases-list_on l = length l.hops.now

abbrev pub invariant-loop-next : goal.invariant-loop-next
invariant-loop-next l = record {
  few : length l.listing ≤ 4194304;
  so_far : l.listing ≡ l.fn.listing ++ map of_walk (flat_map (λ next. walks_on l.rest (on_along l.walk next)) (take l.next-index l.next-items));
}
