use Rattle.std.proofs.Common.{◌≡◌, [], map, replicate}
use Rattle.gq_core.proofs.batches.Batches.new.Given as goal

-- there are as many empty lists as iterations so far
abbrev pub invariant-loop-stripe : goal.invariant-loop-stripe
invariant-loop-stripe l = map (λ list. list.items) l.lists.items ≡ replicate l._stripe []
