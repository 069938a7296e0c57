use Rattle.std.proofs.Common.{◌≡◌, filter, slice_index_or, false}
use Rattle.gq_schema.specs.Members as spec
use Rattle.gq_schema.proofs.members.chosen.Given as goal

abbrev pub invariant-loop-number : goal.invariant-loop-number
invariant-loop-number l = l.numbers ≡ filter (λ k. slice_index_or l.marks k false) (spec.below l.number)
