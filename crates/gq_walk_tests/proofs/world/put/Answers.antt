use Rattle.std.proofs.Common.{ap, sym, ◌∙◌}
use Rattle.std.specs.Option.{unwrap_or}
use Rattle.gq_graph.specs.Edges.{EdgeTable, naming_of, naming_with}
use Rattle.gq_edge.proofs.TableLemmas.{noted_own}
use Rattle.gq_walk_tests.proofs.world.put.Goals as goal

pub returns-in-Ok : goal.returns-in-Ok
returns-in-Ok c = λ known h.
    let naming = naming_with 0 c.args.directed 0 in
    ap (λ n. unwrap_or n naming)
    (sym h ∙ ap (λ (t : EdgeTable). naming_of t.namings 0) c.in-Ok.ensures.done.1 ∙ noted_own c.args.edges.now.namings naming c.requires)
