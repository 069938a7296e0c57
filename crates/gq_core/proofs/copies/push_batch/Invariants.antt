use Rattle.std.proofs.Common.{◌≡◌, ◌++◌, take}
use Rattle.gq_core.specs.Batches.{batch_of}
use Rattle.gq_core.proofs.copies.push_batch.Given as goal

-- the batch of the contributions so far is in the list
abbrev pub invariant-loop-target : goal.invariant-loop-target
invariant-loop-target l = l.list ≡ l.fn.list ++ batch_of l.stripes l.stripe (take l.target-index l.inputs)
