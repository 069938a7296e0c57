use Rattle.std.proofs.Common.{◌≡◌, ◌≤◌, ◌++◌, [], List, replicate}
use Rattle.gq_index.specs.declared.walks.Neighbor.{Neighbor}
use Rattle.gq_index.specs.Packed.{AreApart, parts}
use Rattle.gq_index.proofs.packed.append.Given as goal

abbrev pub invariant-loop-ways : goal.invariant-loop-ways
invariant-loop-ways l = record {
  apart : AreApart l.spans.items l.place;
  within : l.place ≤ l.limit;
  lists : (ways : List Neighbor) → parts l.spans.items ways ≡ parts l.fn.spans.items ways ++ replicate l.ways-index [];
}
