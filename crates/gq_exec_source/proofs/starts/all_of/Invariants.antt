use Rattle.std.proofs.Common.{◌≡◌}
use Rattle.gq_index.specs.Places.{passing}
use Rattle.gq_exec_source.proofs.StartLemmas.{of_type}
use Rattle.gq_exec_source.proofs.starts.all_of.Given as goal

abbrev pub invariant-loop-vertex : goal.invariant-loop-vertex
invariant-loop-vertex l = l.list ≡ passing (of_type l.vertices l.kind) l.vertex
