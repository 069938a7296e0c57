use Rattle.std.proofs.Common.{length}
use Rattle.gq_base.specs.Keys.{number_of, numbers_of}
use Rattle.gq_base.proofs.KeyChainLemmas.{Walks}
use Rattle.gq_base.proofs.key_chains.last_below.Given as goal

abbrev pub invariant-loop-place : goal.invariant-loop-place
invariant-loop-place l = Walks (length l.heads) (numbers_of l.entries) (number_of l.key) l.bound l.place

abbrev pub decreases-loop-place : goal.decreases-loop-place
decreases-loop-place l = l.place
