use Rattle.std.proofs.Common.{◌∙◌, ◌∷◌, ap, arith, map}
use Rattle.std.proofs.lemmas.List.{length-map}
use Rattle.gq_graph.specs.declared.rows.VertexRow.{VertexRow}
use Rattle.gq_index.specs.Sights.{sight_of}
use Rattle.gq_exec_source.specs.Indexed.{plain}
use Rattle.gq_exec_source.specs.Marks.{is_marked}
use Rattle.gq_exec_source.specs.Ways.{step_of}
use Rattle.gq_exec_source.proofs.LeadingLemmas.{left_out}
use Rattle.gq_exec_source.proofs.indexed.find_leading.Goals as goal

pub returns-clause-dead : goal.returns-clause-dead
returns-clause-dead c =
    let g = c.args.graph.now in let vertices = g.store.now.vertices in
    left_out (sight_of g.catalog.now vertices g.store.now.edges) (step_of c.args.step.now ∷ map plain c.args.rest.now) (record { from = c.in_ok-from.from; to = c.in_ok-to.to })
    (λ walk low. c.in_ok-from.ensures c.args.rest.now c.requires.ready (λ v. ap (λ l. is_marked l v) c.as_slice-2.ensures ∙ (rw c.as_slice.ensures at (c.in_ok-to.ensures v))) walk
    (omega (arith, low, length-map vertices (λ (row : VertexRow). row.kind))))
