use Rattle.std.proofs.Common.{◌≡◌, List, ℕ, length, map, ap, sym, refl, subst, ◌∙◌}
use Rattle.std.proofs.lemmas.List.{length-map}
use Rattle.gq_graph.specs.declared.types.EdgeType.{EdgeType}
use Rattle.gq_graph.specs.declared.rows.VertexRow.{VertexRow}
use Rattle.gq_index.specs.Kept.{AllWithin}
use Rattle.gq_index.specs.Places.{below}
use Rattle.gq_index.specs.Walks.{walks_from}
use Rattle.gq_index.proofs.KeptLemmas.{all_kept, are_ends, ends_walks, rows_kept, with_edges}
use Rattle.gq_index.proofs.kept.KeptIndex.fill_by.Goals as goal

pub returns-clause-index : goal.returns-clause-index
returns-clause-index g c =
    let types = c.args.catalog.now.edge_types in let store = c.args.store.now in let ends = c.ends-edges.result.now in let n = c.len-vertices.result in
    let are = are_ends ends store.edges.rows c.ends-edges.ensures.long c.ends-edges.ensures.kinds c.ends-edges.ensures.froms c.ends-edges.ensures.tos in
    c.in_ok-self.ensures ∙ ap (λ (ts : List EdgeType). map (walks_from ts ends) (below n)) c.edge_types.ensures.types ∙ ends_walks types ends store.edges.rows n are
    ∙ ap (λ k. map (walks_from types store.edges.rows) (below k)) (c.len-vertices.ensures.count ∙ sym (length-map store.vertices (λ (row : VertexRow). row.kind)))

pub returns-clause-kept : goal.returns-clause-kept
returns-clause-kept g c =
    let types = c.args.catalog.now.edge_types in let store = c.args.store.now in let ends = c.ends-edges.result.now in let count = c.len-vertices.ensures.count in
    let are = are_ends ends store.edges.rows c.ends-edges.ensures.long c.ends-edges.ensures.kinds c.ends-edges.ensures.froms c.ends-edges.ensures.tos in
    rows_kept _ c.args.catalog.now store ends are
    (all_kept _ c.args.catalog.now (with_edges store ends) c.requires.types refl
    (c.in_ok-self.ensures
    ∙ ap (λ (ts : List EdgeType). map (walks_from ts ends) (below c.len-vertices.result)) c.edge_types.ensures.types
    ∙ ap (λ n. map (walks_from types ends) (below n)) count)
    (λ all. subst (λ (n : ℕ). AllWithin n (length ends) ends) count (c.are_within-self.ensures all)))
