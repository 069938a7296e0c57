use Rattle.gq_graph.specs.Edges.{Agrees, naming_with}
use Rattle.gq_walk_tests.proofs.world.join.Given as goal

abbrev pub invariant-loop-from : goal.invariant-loop-from
invariant-loop-from l = Agrees l.edges.namings (naming_with 0 l.joined.directed 0)
