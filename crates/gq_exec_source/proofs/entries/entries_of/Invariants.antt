use Rattle.gq_exec_source.specs.Entries.{AreFound}
use Rattle.gq_exec_source.specs.Ways.{step_of}
use Rattle.gq_exec_source.proofs.RowLemmas.{first_walks}
use Rattle.gq_exec_source.proofs.entries.entries_of.Given as goal

abbrev pub invariant-loop-kind : goal.invariant-loop-kind
invariant-loop-kind l = AreFound l.types l.entries.items (λ edges. first_walks (step_of l.step) l.types edges l.kind)
