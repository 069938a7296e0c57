use Rattle.std.proofs.Common.{◌+◌, length, sym}
use Rattle.std.proofs.lemmas.List.{length-map}
use Rattle.std.proofs.lemmas.Result.{IfOk-weaker}
use Rattle.gq_graph.specs.declared.rows.VertexRow.{VertexRow}
use Rattle.gq_index.specs.Sights.{sight_of}
use Rattle.gq_index.proofs.KeptLemmas.{are_ends}
use Rattle.gq_exec_source.specs.Ways.{step_of}
use Rattle.gq_exec_source.proofs.HopLemmas.{hop_before_is}
use Rattle.gq_exec_source.proofs.RowLemmas.{placed_ends}
use Rattle.gq_exec_source.proofs.paths.hop_before.Goals as goal

pub build-requires-clause-placed : goal.build-requires-clause-placed
build-requires-clause-placed c =
    let g = c.args.graph.now in let ends = c.ends-rows.result.now in let rows = g.store.now.edges.rows in
    let have = are_ends ends rows c.ends-rows.ensures.long c.ends-rows.ensures.kinds c.ends-rows.ensures.froms c.ends-rows.ensures.tos in
    rw c.edge_types-types.ensures.types
    (placed_ends (length g.catalog.now.edge_types) (length g.catalog.now.edge_types + 1) ends rows c.args.starts.now c.args.order.now have c.requires.placed)

pub returns : goal.returns
returns c =
    let g = c.args.graph.now in let vertices = g.store.now.vertices in let ends = c.ends-rows.result.now in
    let have = are_ends ends g.store.now.edges.rows c.ends-rows.ensures.long c.ends-rows.ensures.kinds c.ends-rows.ensures.froms c.ends-rows.ensures.tos in
    IfOk-weaker c.build.result _ _ (λ h is steps are.
    hop_before_is (sight_of g.catalog.now vertices g.store.now.edges) (step_of c.args.step.now) steps h c.args.hops.now (length vertices) c.as_slice.result.now c.edge_types-types.result.now ends
    (sym (length-map vertices (λ (row : VertexRow). row.kind))) c.as_slice.ensures c.edge_types-types.ensures.types have is are)
    c.build.ensures
