use Rattle.std.proofs.Common.{◌≡◌, ◌≤◌, ◌++◌, length, map, take}
use Rattle.gq_index.specs.Segments.{of_walk}
use Rattle.gq_exec_source.proofs.lookups.list_each.Given as goal

abbrev pub invariant-loop-walk : goal.invariant-loop-walk
invariant-loop-walk l = record {
  few : length l.listing ≤ 4194304;
  so_far : l.listing ≡ l.fn.listing ++ map of_walk (take l.walk-index l.walks);
}
