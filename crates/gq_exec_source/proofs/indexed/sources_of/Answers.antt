use Rattle.std.proofs.Common.{◌∙◌, arith, sym}
use Rattle.std.proofs.lemmas.List.{length-map}
use Rattle.gq_graph.specs.declared.rows.VertexRow.{VertexRow}
use Rattle.gq_index.specs.Sights.{sight_of}
use Rattle.gq_index.proofs.KeptLemmas.{are_ends}
use Rattle.gq_exec_source.specs.Ways.{step_of}
use Rattle.gq_exec_source.proofs.LeadingLemmas.{none_other}
use Rattle.gq_exec_source.proofs.indexed.sources_of.Goals as goal

pub returns : goal.returns
returns c = λ rest ready are walk low.
    let g = c.args.graph.now in let vertices = g.store.now.vertices in let ends = c.ends.result.now in
    none_other (sight_of g.catalog.now vertices g.store.now.edges) (step_of c.args.step.now) c.in_ok-directions.directions ends c.args.targets.now c.in_ok-words.words c.mark_rows.new.words c.len.result
    (c.len.ensures.count ∙ sym (length-map vertices (λ (row : VertexRow). row.kind)))
    (are_ends ends g.store.now.edges.rows c.ends.ensures.long c.ends.ensures.kinds c.ends.ensures.froms c.ends.ensures.tos)
    (rw c.edge_types.ensures.types at c.in_ok-directions.ensures) c.in_ok-words.ensures c.mark_rows.ensures.marks rest ready are walk
    (omega (arith, low, length-map vertices (λ (row : VertexRow). row.kind)))
