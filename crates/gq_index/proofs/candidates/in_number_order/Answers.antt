use Rattle.std.proofs.Common.{sym, ap, ◌∙◌, ◌≡◌, eqb, ltb, length, filter}
use Rattle.std.proofs.lemmas.List.{length-map}
use Rattle.std.proofs.lemmas.List.Filters.{dedup_is}
use Rattle.gq_graph.specs.declared.rows.VertexRow.{VertexRow}
use Rattle.gq_index.specs.Sights.{sight_of, vertex_kinds}
use Rattle.gq_index.proofs.OrderLemmas.{kept_by_number}
use Rattle.gq_index.proofs.SightLemmas.{by_number_below}
use Rattle.gq_index.proofs.candidates.in_number_order.Goals as goal

pub returns : goal.returns
returns c =
    let g = c.args.graph.now in let vertices = g.store.now.vertices in
    let long : length (vertex_kinds vertices) ≡ length vertices = length-map vertices (λ (row : VertexRow). row.kind) in
    kept_by_number c.args.set.now c.in_ok-sources.sources.items c.sort.new.self.items c.dedup.new.self.items (length (vertex_kinds vertices))
    (c.in_ok-sources.ensures ∙ ap (λ n. filter (λ v. ltb v n) c.args.set.now) (c.len.ensures.count ∙ sym long))
    c.sort.ensures.permutation c.in_ok-sort.ensures.sorted
    (dedup_is eqb c.sort.new.self.items c.dedup.new.self.items c.dedup.ensures.filtered)
    ∙ sym (by_number_below (sight_of g.catalog.now vertices g.store.now.edges) c.args.set.now)
