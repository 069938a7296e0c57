use Rattle.std.proofs.Common.{◌≡◌}
use Rattle.gq_schema.specs.Members as spec
use Rattle.gq_schema.proofs.members.all.Given as goal

abbrev pub invariant-loop-number : goal.invariant-loop-number
invariant-loop-number l = l.numbers ≡ spec.below l.number
