use Rattle.std.proofs.Common.{◌≡◌, length, take}
use Rattle.gq_scope.specs.Kept.{tuple_types}
use Rattle.gq_scope.proofs.table.tuple_count.Given as goal

abbrev pub invariant-loop-entry : goal.invariant-loop-entry
invariant-loop-entry l = l.count ≡ length (tuple_types (take l.entry-index l.names))
