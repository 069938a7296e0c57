use Rattle.std.proofs.Common.{◌<◌, ap, arith, length, take}
use Rattle.std.proofs.lemmas.List.{length-map}
use Rattle.gq_graph.specs.declared.rows.VertexRow.{VertexRow}
use Rattle.gq_index.specs.Sights.{sight_of, vertex_kinds}
use Rattle.gq_exec_source.specs.Indexed.{plain}
use Rattle.gq_exec_source.proofs.LookupLemmas.{gone_more, taken_is, taken_within}
use Rattle.gq_exec_source.proofs.lookups.taken.Goals as goal

pub loop-entry-preserved : goal.loop-entry-preserved
loop-entry-preserved c =
    let g = c.args.graph.now in let vertices = g.store.now.vertices in let kinds = vertex_kinds vertices in let i = c.loop-entry.entry-index in let entries = c.args.step.now.entries.items in
    let are = c.as_slice-entry-items.ensures.value in
    let low : i < length entries = omega (arith, c.loop-entry-test.true, ap length are) in
    gone_more kinds c.args.step.now.step.now.targets c.args.rest.now g.catalog.now.edge_types g.store.now.edges.rows c.args.walk entries i _ c.ways_under-ways.result.now c.loop-entry.walks.items c.add_ways.new.walks.items
    low
    (rw are at (c.ways_under-ways.ensures (sight_of g.catalog.now vertices g.store.now.edges) c.requires.indexed (omega (arith, c.requires.here, length-map vertices (λ (row : VertexRow). row.kind)))
    (rw are (c.requires.ready.found.there i _ low))))
    c.loop-entry.invariant (rw are at c.in_ok-add_ways.ensures)

pub returns-clause-leads : goal.returns-clause-leads
returns-clause-leads c =
    let g = c.args.graph.now in
    taken_is (sight_of g.catalog.now g.store.now.vertices g.store.now.edges) (plain c.args.step.now) c.args.rest.now c.args.walk c.args.step.now.entries.items c.loop-entry.entry-index c.loop-entry.walks.items
    (omega arith) c.requires.rest c.requires.ready.found c.loop-entry.invariant

pub returns-clause-within : goal.returns-clause-within
returns-clause-within c =
    let g = c.args.graph.now in let vertices = g.store.now.vertices in
    taken_within vertices (vertex_kinds vertices) c.args.step.now.step.now.targets c.args.rest.now g.catalog.now.edge_types g.store.now.edges.rows c.args.walk (take c.loop-entry.entry-index c.args.step.now.entries.items) c.loop-entry.walks.items
    (length-map vertices (λ (row : VertexRow). row.kind)) c.loop-entry.invariant
