-- WayLemmas: the walks of a step that start from one vertex and lead to a target are those of one step of the
-- definition.
use Rattle.std.proofs.Common.{ℕ, ◌≡◌, Bool, true, false, cond, List, [], ◌∷◌, ◌==◌, length, map, Option, Some, None, refl, ap, sym, ◌∙◌, arith}
use Rattle.std.specs.List.{filter, flat_map}
use Rattle.std.specs.Option.{option_to_list}
use Rattle.std.proofs.lemmas.List.Folds.{flat_map-map}
use Rattle.std.proofs.lemmas.Bool.Decides.{nat_tests}
use Rattle.gq_graph.specs.declared.types.EdgeType.{EdgeType}
use Rattle.gq_graph.specs.declared.rows.EdgeRow.{EdgeRow}
use Rattle.gq_graph.specs.declared.rows.Candidate.{Candidate}
use Rattle.gq_graph.specs.Candidates.{Sight, is_target, numbered}
use Rattle.gq_graph.specs.Edges.{edge_at, no_edge}
use Rattle.gq_index.specs.declared.walks.Traversal.{Traversal}
use Rattle.gq_index.specs.Places.{below}
use Rattle.gq_index.specs.Sights.{type_at, no_type}
use Rattle.gq_index.specs.Segments.{of_walk}
use Rattle.gq_index.specs.Walks.{base_of}
use Rattle.gq_index.proofs.WalkLemmas.{filter_flat_map, flat_map_agree, map_cond}
use Rattle.gq_index.proofs.IndexLemmas.{map_flat_map}
use Rattle.gq_index.proofs.SightLemmas.{numbered_is}
use Rattle.gq_rules_typing.specs.Way.{Way}
use Rattle.gq_rules_typing.specs.Way.TheVariants as way
use Rattle.gq_rules_typing.specs.Patterns.{PathStep}
use Rattle.gq_rules_meaning.specs.Paths.{ends_under, led_to, far_end, ways_of, along, step_from}
use Rattle.gq_exec_source.specs.Ways.{walk_between, walks_in, row_walks, walks_along, type_walks, step_walks}
use Rattle.gq_exec_source.specs.Hops.{taken_from, on_along}
use Rattle.gq_exec_source.proofs.ListLemmas.{flat_map_same}

out_from : (e r v a b : ℕ) → filter (λ (x : Traversal). x.source == v) (walk_between e r a b ∷ []) ≡ map (walk_between e r v) (option_to_list (cond (a == v) (Some b) None))
out_from e r v a b = grind (arith, nat_tests)

both_from : (e r v a b : ℕ) → filter (λ (x : Traversal). x.source == v) (cond (a == b) (walk_between e r a b ∷ []) (walk_between e r a b ∷ walk_between e r b a ∷ []))
    ≡ map (walk_between e r v) (option_to_list (cond (a == v) (Some b) (cond (b == v) (Some a) None)))
both_from e r v a b = grind (arith, nat_tests)

in_from : (w : Way) (e r v : ℕ) (ends : ℕ × ℕ) → taken_from v (walks_in w e r ends) ≡ map (walk_between e r v) (option_to_list (led_to w ends v))
in_from way.Forward e r v ends = out_from e r v ends.0 ends.1
in_from way.Backward e r v ends = out_from e r v ends.1 ends.0
in_from way.Both e r v ends = both_from e r v ends.0 ends.1

-- one row under one type in one way
pub row_from : (t : EdgeType) (e r v : ℕ) (row : EdgeRow) (w : Way) → taken_from v (row_walks t e r row w) ≡ map (walk_between e r v) (option_to_list (far_end w (e, t) row v))
row_from t e r v row w =
    elim (row.kind == base_of t e) as (λ b. taken_from v (cond b (walks_in w e r (ends_under t row)) []) ≡ map (walk_between e r v) (option_to_list (cond b (led_to w (ends_under t row) v) None))) [
      | false ↦ refl
      | true ↦ in_from w e r v (ends_under t row)
    ]

-- the continuations of a walk along some walks
abbrev pub went : Sight → PathStep → Traversal → List Traversal → List Candidate
went sight step walk walks =
    map (λ x. of_walk (on_along walk x)) (filter (λ (x : Traversal). is_target sight.kinds step.targets x.target) (taken_from walk.target walks))

along_far : (sight : Sight) (step : PathStep) (walk : Traversal) (t : EdgeType) (e r : ℕ) (row : EdgeRow) (w : Way) (far : Option ℕ) → far_end w (e, t) row walk.target ≡ far
    → map (λ x. of_walk (on_along walk x)) (filter (λ (x : Traversal). is_target sight.kinds step.targets x.target) (map (walk_between e r walk.target) (option_to_list far)))
    ≡ along sight step (of_walk walk) walk.target (e, t) (r, row) w
along_far sight step walk t e r row w None is = rw (is, along) refl
along_far sight step walk t e r row w (Some v) is =
    rw (is, along) (map_cond (λ x. of_walk (on_along walk x)) (is_target sight.kinds step.targets v) (walk_between e r walk.target v))

went_row : (sight : Sight) (step : PathStep) (walk : Traversal) (t : EdgeType) (e r : ℕ) (row : EdgeRow) (w : Way)
    → went sight step walk (row_walks t e r row w) ≡ along sight step (of_walk walk) walk.target (e, t) (r, row) w
went_row sight step walk t e r row w =
    ap (λ l. map (λ x. of_walk (on_along walk x)) (filter (λ (x : Traversal). is_target sight.kinds step.targets x.target) l)) (row_from t e r walk.target row w)
    ∙ along_far sight step walk t e r row w (far_end w (e, t) row walk.target) refl

went_all : {X : Type 0} (sight : Sight) (step : PathStep) (walk : Traversal) (f : X → List Traversal) (xs : List X)
    → went sight step walk (flat_map f xs) ≡ flat_map (λ x. went sight step walk (f x)) xs
went_all sight step walk f xs =
    let on : Traversal → Candidate = λ x. of_walk (on_along walk x) in
    let fits : Traversal → Bool = λ x. is_target sight.kinds step.targets x.target in
    let here : Traversal → Bool = λ x. x.source == walk.target in
    ap (λ l. map on (filter fits l)) (filter_flat_map here f xs)
    ∙ ap (map on) (filter_flat_map fits (λ x. filter here (f x)) xs)
    ∙ map_flat_map on (λ x. filter fits (filter here (f x))) xs

-- all rows under all types in all ways
pub went_step : (sight : Sight) (step : PathStep) (walk : Traversal) → went sight step walk (step_walks step sight.types sight.edges) ≡ step_from sight step (of_walk walk)
unfolding step_walks type_walks
went_step sight step walk =
    went_all sight step walk T (below n)
    ∙ flat_map_agree (λ e. went sight step walk (T e)) (λ e. G (E e)) n (λ e _. under e)
    ∙ sym (flat_map-map G E (below n)) ∙ ap (flat_map G) (sym (numbered_is sight.types no_type))
  where
    n : ℕ
    n = length sight.types

    m : ℕ
    m = length sight.edges

    E : ℕ → ℕ × EdgeType
    E e = (e, type_at sight.types e)

    R : ℕ → ℕ × EdgeRow
    R r = (r, edge_at sight.edges r)

    T : ℕ → List Traversal
    T e = flat_map (λ r. walks_along (ways_of step e) (type_at sight.types e) e r (edge_at sight.edges r)) (below m)

    H : ℕ × EdgeType → ℕ × EdgeRow → List Candidate
    H type row = flat_map (along sight step (of_walk walk) walk.target type row) (ways_of step type.0)

    G : ℕ × EdgeType → List Candidate
    G type = flat_map (H type) (numbered 0 sight.edges)

    at : (e r : ℕ) → went sight step walk (walks_along (ways_of step e) (type_at sight.types e) e r (edge_at sight.edges r)) ≡ H (E e) (R r)
    at e r =
        went_all sight step walk (row_walks (type_at sight.types e) e r (edge_at sight.edges r)) (ways_of step e)
        ∙ flat_map_same (λ w. went sight step walk (row_walks (type_at sight.types e) e r (edge_at sight.edges r) w)) (along sight step (of_walk walk) walk.target (E e) (R r))
        (λ w. went_row sight step walk (type_at sight.types e) e r (edge_at sight.edges r) w) (ways_of step e)

    under : (e : ℕ) → went sight step walk (T e) ≡ G (E e)
    under e =
        went_all sight step walk (λ r. walks_along (ways_of step e) (type_at sight.types e) e r (edge_at sight.edges r)) (below m)
        ∙ flat_map_agree (λ r. went sight step walk (walks_along (ways_of step e) (type_at sight.types e) e r (edge_at sight.edges r))) (λ r. H (E e) (R r)) m (λ r _. at e r)
        ∙ sym (flat_map-map (H (E e)) R (below m)) ∙ ap (flat_map (H (E e))) (sym (numbered_is sight.edges no_edge))
