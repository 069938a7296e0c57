use Rattle.std.proofs.Common.{◌≡◌, replicate}
use Rattle.gq_store.specs.Lists.{nothing_known}
use Rattle.gq_store.proofs.opening.newcomers.Given as goal

abbrev pub invariant-loop : goal.invariant-loop
invariant-loop g l = l.all.items ≡ replicate l.counter nothing_known
