use Rattle.std.proofs.Common.{◌≡◌}
use Rattle.gq_exec_source.specs.Hops.{kept}
use Rattle.gq_exec_source.specs.Ways.{step_of}
use Rattle.gq_exec_source.proofs.RowLemmas.{first_walks}
use Rattle.gq_exec_source.proofs.walks.walks_of.Given as goal

abbrev pub invariant-loop-kind : goal.invariant-loop-kind
invariant-loop-kind l = l.walks.items ≡ kept l.beyond (first_walks (step_of l.step) l.types l.rows l.kind)
