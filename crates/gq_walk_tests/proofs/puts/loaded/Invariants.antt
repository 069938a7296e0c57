use Rattle.std.proofs.Common.{ℕ, false}
use Rattle.gq_graph.specs.Edges.{Agrees, naming_with}
use Rattle.gq_walk_tests.proofs.puts.loaded.Given as goal

abbrev pub invariant-loop-from : goal.invariant-loop-from
invariant-loop-from l = (kind : ℕ) → Agrees l.store.edges.namings (naming_with kind false 0)
