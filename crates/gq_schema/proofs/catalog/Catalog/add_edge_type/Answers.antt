use Rattle.std.proofs.Common.{◌≡◌, ◌∙◌, ◌<◌, ◌++◌, ◌∷◌, [], ap, refl, sym, subst, List, ℕ, length, None, Some, ◌+◌, ◌≤◌, arith}
use Rattle.std.specs.Option.{option_copied, option_to_list}
use Rattle.gq_graph.specs.declared.types.EdgeType.{EdgeType}
use Rattle.gq_graph.specs.Catalog.{Schema, edge_names, edge_type_with, name_place, type_count}
use Rattle.gq_schema.specs.Refusals.{bad_default}
use Rattle.gq_schema.proofs.JudgeLemmas.{edge_parts, edge_good, all_good, apart_of, edge_room}
use Rattle.gq_schema.proofs.catalog.Catalog.add_edge_type.Goals as goal

pub edge_type-requires-clause-good_key : goal.edge_type-requires-clause-good_key
edge_type-requires-clause-good_key c k d low =
    all_good c.as_slice-key.result.now (edge_good c.as_slice-key.result.now c.as_slice-rest.result.now
    (edge_parts c.args.self.now c.args.name.now c.args.from.now c.args.to.now (option_copied c.args.reverse) (c.as_slice-key.result.now ++ c.as_slice-rest.result.now) c.in-Ok.ensures.judged).2).0 k d low

pub edge_type-requires-clause-good : goal.edge_type-requires-clause-good
edge_type-requires-clause-good c k d low =
    all_good c.as_slice-rest.result.now (edge_good c.as_slice-key.result.now c.as_slice-rest.result.now
    (edge_parts c.args.self.now c.args.name.now c.args.from.now c.args.to.now (option_copied c.args.reverse) (c.as_slice-key.result.now ++ c.as_slice-rest.result.now) c.in-Ok.ensures.judged).2).1 k d low

pub backward_type-requires-clause-good_key : goal.backward_type-requires-clause-good_key
backward_type-requires-clause-good_key c k d low =
    all_good c.as_slice-key.result.now (edge_good c.as_slice-key.result.now c.as_slice-rest.result.now
    (edge_parts c.args.self.now c.args.name.now c.args.from.now c.args.to.now (option_copied c.args.reverse) (c.as_slice-key.result.now ++ c.as_slice-rest.result.now) c.in-Ok.ensures.judged).2).0 k d low

pub backward_type-requires-clause-good : goal.backward_type-requires-clause-good
backward_type-requires-clause-good c k d low =
    all_good c.as_slice-rest.result.now (edge_good c.as_slice-key.result.now c.as_slice-rest.result.now
    (edge_parts c.args.self.now c.args.name.now c.args.from.now c.args.to.now (option_copied c.args.reverse) (c.as_slice-key.result.now ++ c.as_slice-rest.result.now) c.in-Ok.ensures.judged).2).1 k d low

pub append_edge_types-requires-clause-apart : goal.append_edge_types-requires-clause-apart
append_edge_types-requires-clause-apart c t at =
    let parts = edge_parts c.args.self.now c.args.name.now c.args.from.now c.args.to.now (option_copied c.args.reverse) (c.as_slice-key.result.now ++ c.as_slice-rest.result.now) c.in-Ok.ensures.judged in
    let done = apart_of c.args.self.now c.args.name.now (option_copied c.args.reverse)
    (λ n. edge_type_with n c.args.directed c.in-Ok.ends.1 c.in-Ok.ends.0 (Some c.len-number.result) None (length c.as_slice-key.result.now) (c.as_slice-key.result.now ++ c.as_slice-rest.result.now))
    (λ n. refl) parts.0 parts.1 c.in-Ok-backward_type.entry c.in-Ok-backward_type.ensures t at in
    let names : c.self.inside.edge_names ≡ edge_names c.args.self.now.edge_types = c.self.invariant.edges_named ∙ ap (λ (s : Schema). edge_names s.edge_types) c.self.view_is in
    let own : c.in-Ok-edge_type.entry.name ≡ c.args.name.now = ap (λ (e : EdgeType). e.name) c.in-Ok-edge_type.ensures in
    ap (λ (l : List (List ℕ)). name_place (l ++ c.in-Ok-edge_type.entry.name ∷ []) t.name) names
    ∙ ap (λ (n : List ℕ). name_place (edge_names c.args.self.now.edge_types ++ n ∷ []) t.name) own ∙ done

pub invariant_of-self : goal.invariant_of-self
invariant_of-self c =
    let room = edge_room c.args.self.now c.args.name.now c.args.from.now c.args.to.now (option_copied c.args.reverse) (c.as_slice-key.result.now ++ c.as_slice-rest.result.now)
    (λ n. edge_type_with n c.args.directed c.in-Ok.ends.1 c.in-Ok.ends.0 (Some c.len-number.result) None (length c.as_slice-key.result.now) (c.as_slice-key.result.now ++ c.as_slice-rest.result.now))
    c.in-Ok-backward_type.entry c.in-Ok.ensures.judged c.in-Ok-backward_type.ensures in
    let count : length c.self.inside.vertex_types.items + length c.self.inside.edge_types.items ≡ type_count c.args.self.now = ap type_count c.self.view_is in
    record {
      vertices_named = c.self.invariant.vertices_named;
      edges_named = c.append_edge_types.ensures.named;
      graphs_named = c.self.invariant.graphs_named;
      few_types = omega (arith, c.append_edge_types.ensures.count, room, count);
      few_graphs = c.self.invariant.few_graphs;
    }
