use Rattle.std.proofs.Common.{◌≡◌, ◌≤◌, ◌++◌, length, map, take}
use Rattle.std.specs.List.{flat_map}
use Rattle.gq_index.specs.Segments.{of_walk}
use Rattle.gq_index.specs.Sights.{sight_of}
use Rattle.gq_rules_meaning.specs.Paths.{steps_from}
use Rattle.gq_exec_source.specs.Indexed.{plain}
use Rattle.gq_exec_source.proofs.lookups.+list_all.Given as goal

abbrev pub decreases-list_all : goal.decreases-list_all
decreases-list_all l = length l.steps.now

abbrev pub invariant-loop-walk : goal.invariant-loop-walk
invariant-loop-walk l = record {
  few : length l.listing ≤ 4194304;
  so_far : l.listing ≡ l.fn.listing ++ flat_map (λ w. steps_from (sight_of l.graph.catalog.now l.graph.store.now.vertices l.graph.store.now.edges) (map plain l.steps) (of_walk w)) (take l.walk-index l.walks);
}
