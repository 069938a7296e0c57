use Rattle.std.proofs.Common.{◌≡◌, [], map, take, replicate}
use Rattle.gq_core.proofs.batches.Batches.clear.Given as goal

-- the lists so far are empty
abbrev pub invariant-loop-list : goal.invariant-loop-list
invariant-loop-list l = take l.list-index (map (λ list. list.items) l.list-items) ≡ replicate l.list-index []
