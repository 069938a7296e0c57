use Rattle.std.proofs.Common.{◌≡◌, ◌++◌, [], map, replicate}
use Rattle.gq_index.proofs.lists.widen_apart.Given as goal

abbrev pub invariant-loop-ways : goal.invariant-loop-ways
invariant-loop-ways l = map (λ list. list.items) l.lists.items ≡ map (λ list. list.items) l.fn.lists.items ++ replicate l.ways-index []
