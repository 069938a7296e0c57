use Rattle.std.proofs.Common.{◌≡◌, map, take}
use Rattle.gq_index.proofs.lists.separated.Given as goal

abbrev pub invariant-loop-vertex : goal.invariant-loop-vertex
invariant-loop-vertex l = map (λ list. list.items) l.apart.items ≡ take l.vertex l.packed
