use Rattle.std.proofs.Common.{◌≡◌, ◌++◌, map, take}
use Rattle.gq_value.specs.Views.{val}
use Rattle.gq_edge.proofs.names.add_all.Given as goal

abbrev pub invariant-loop-value : goal.invariant-loop-value
invariant-loop-value l = map val l.name.items ≡ map val l.initial.name.items ++ map val (take l.value-index l.values)
