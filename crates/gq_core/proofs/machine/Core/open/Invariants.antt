use Rattle.std.proofs.Common.{◌≡◌, replicate}
use Rattle.gq_core.specs.Machine.{fresh}
use Rattle.gq_core.proofs.machine.Core.open.Given as goal

-- there are as many fresh stripes as iterations so far
abbrev pub invariant-loop-stripe : goal.invariant-loop-stripe
invariant-loop-stripe l = l.stripes.items ≡ replicate l._stripe fresh
