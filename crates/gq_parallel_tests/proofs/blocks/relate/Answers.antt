use Rattle.std.proofs.Common.{All, true, sym, subst, arith}
use Rattle.gq_graph.specs.Edges.{EdgeTable, edge_with, naming_with}
use Rattle.gq_parallel_tests.specs.Blocks.{IsAmong}
use Rattle.gq_parallel_tests.proofs.RowLemmas.{edge_among, stays_named}
use Rattle.gq_parallel_tests.proofs.blocks.relate.Goals as goal

pub returns-in-Ok-clause-agrees : goal.returns-in-Ok-clause-agrees
returns-in-Ok-clause-agrees c = stays_named c.args.edges.now c.upsert.new.self (naming_with 0 true 0) _ c.in-Ok.ensures.done.1 c.requires.agrees

pub returns-in-Ok-clause-within : goal.returns-in-Ok-clause-within
returns-in-Ok-clause-within c =
    subst (λ (t : EdgeTable). All (IsAmong 3) t.rows) (sym c.in-Ok.ensures.done.1)
    (edge_among 3 c.args.edges.now (naming_with 0 true 0) _ (omega arith) c.requires.within (record { from = c.requires.from; to = c.requires.to }))
