use Rattle.std.proofs.Common.{◌≡◌, take, map}
use Rattle.gq_value.specs.Views.{val}
use Rattle.gq_edge.specs.Keyed as spec
use Rattle.gq_edge.proofs.key.values_hash.Given as goal

abbrev pub invariant-loop-value : goal.invariant-loop-value
invariant-loop-value l = l.mix ≡ spec.values_hash l.hash (map val (take l.value-index l.values))
