use Rattle.std.proofs.Common.{◌≡◌, take, map}
use Rattle.gq_value.specs.Views.{val}
use Rattle.gq_edge.specs.Hashed as spec
use Rattle.gq_edge.proofs.hash.row_hash.Given as goal

abbrev pub invariant-loop-value : goal.invariant-loop-value
invariant-loop-value l = l.hash ≡ spec.row_hash (map val (take l.value-index l.row))
