use Rattle.std.proofs.Common.{◌≡◌, ◌≤◌, ◌++◌, length, map, take}
use Rattle.gq_index.specs.Segments.{of_walk}
use Rattle.gq_exec_source.specs.Hops.{walks_from}
use Rattle.gq_exec_source.proofs.paths.list_from.Given as goal

abbrev pub invariant-loop-source : goal.invariant-loop-source
invariant-loop-source l = record {
  few : length l.listing ≤ 4194304;
  so_far : l.listing ≡ l.fn.listing ++ map of_walk (walks_from l.hops (take l.source-index l.sources));
}
