-- HopLemmas: hops give the same bindings as the steps, though rows that lead nowhere are left out.
use Rattle.std.proofs.Common.{inl, inr, ℕ, suc, ◌<◌, ◌≡◌, Bool, true, false, cond, not, List, [], ◌∷◌, ◌==◌, ◌&&◌, length, map, refl, ap, sym, ◌∙◌, arith}
use Rattle.std.specs.Prelude.{nat_lt}
use Rattle.std.specs.List.{filter, flat_map}
use Rattle.std.proofs.lemmas.List.Elements.{filter_agree}
use Rattle.std.proofs.lemmas.List.Folds.{flat_map-map}
use Rattle.std.proofs.lemmas.Option.{slice_get_past}
use Rattle.std.proofs.lemmas.Bool.{true≢false}
use Rattle.std.proofs.lemmas.Bool.Decides.{nat_tests}
use Rattle.gq_graph.specs.declared.types.EdgeType.{EdgeType}
use Rattle.gq_graph.specs.declared.rows.EdgeRow.{EdgeRow}
use Rattle.gq_graph.specs.declared.rows.Candidate.{Candidate}
use Rattle.gq_graph.specs.Candidates.{Sight, is_target}
use Rattle.gq_index.specs.declared.walks.Traversal.{Traversal}
use Rattle.gq_index.specs.Segments.{of_walk}
use Rattle.gq_index.proofs.WalkLemmas.{flat_map_filter, lt_or_le}
use Rattle.gq_index.proofs.IndexLemmas.{map_flat_map}
use Rattle.gq_index.proofs.KeptLemmas.{AreEnds}
use Rattle.gq_rules_typing.specs.Patterns.{PathStep}
use Rattle.gq_rules_meaning.specs.Paths.{steps_from}
use Rattle.gq_exec_source.specs.Ways.{step_walks}
use Rattle.gq_exec_source.specs.Hops.{walks_at, goes_on, is_kept, taken_from, IsHop, on_along, walks_on, AreHops}
use Rattle.gq_exec_source.proofs.ListLemmas.{flat_map_same, pruned, filter_twice}
use Rattle.gq_exec_source.proofs.WayLemmas.{went_step}
use Rattle.gq_exec_source.proofs.RowLemmas.{steps_alike}

tests_same : (low target on here : Bool) → (here ≡ true → low ≡ true) → ((low && (target && on)) && here) ≡ ((here && target) && on)
tests_same true true true true h = refl
tests_same true true true false h = refl
tests_same true true false true h = refl
tests_same true true false false h = refl
tests_same true false on true h = refl
tests_same true false on false h = refl
tests_same false target on false h = refl
tests_same false target on true h = absurd (cc (h refl))

starts_low : (a v n : ℕ) → v < n → (a == v) ≡ true → nat_lt a n ≡ true
starts_low a v n low same = grind (arith, nat_tests)

-- the listed walks from a vertex: those that lead to a target, and of these those that continue
kept_taken : (kinds targets : List ℕ) (hops : List (List (List Traversal))) (v : ℕ) → v < length kinds → (walks : List Traversal)
    → taken_from v (filter (is_kept kinds targets hops) walks)
    ≡ filter (λ (x : Traversal). goes_on hops x.target) (filter (λ (x : Traversal). is_target kinds targets x.target) (taken_from v walks))
kept_taken kinds targets hops v low walks =
    let here : Traversal → Bool = λ x. x.source == v in
    let fits : Traversal → Bool = λ x. is_target kinds targets x.target in
    let on : Traversal → Bool = λ x. goes_on hops x.target in
    filter_twice here (is_kept kinds targets hops) walks
    ∙ filter_agree (λ x. is_kept kinds targets hops x && here x) (λ x. (here x && fits x) && on x)
    (λ x. tests_same (nat_lt x.source (length kinds)) (fits x) (on x) (here x) (starts_low x.source v (length kinds) low)) walks
    ∙ sym (ap (filter on) (filter_twice fits here walks) ∙ filter_twice on (λ x. here x && fits x) walks)

some_there : (n : ℕ) → not (suc n == 0) ≡ true
some_there n = grind (arith, nat_tests)

none_there : (walks : List Traversal) → not (length walks == 0) ≡ false → walks ≡ []
none_there [] is = refl
none_there (x ∷ walks) is = absurd (true≢false (sym (some_there (length walks)) ∙ is))

-- if the next hop doesn't continue from a walk's end, nothing follows
dead_end : (walk : Traversal) (hops : List (List (List Traversal))) → goes_on hops walk.target ≡ false → walks_on hops walk ≡ []
dead_end walk [] is = absurd (cc is)
dead_end walk (hop ∷ hops) is = ap (flat_map (λ next. walks_on hops (on_along walk next))) (none_there (walks_at hop walk.target) is)

pub target_low : (kinds targets : List ℕ) (v : ℕ) → is_target kinds targets v ≡ true → v < length kinds
target_low kinds targets v is = elim (lt_or_le v (length kinds)) [
  | inl low ↦ low
  | inr past ↦ absurd (let none : is_target kinds targets v ≡ false = rw (slice_get_past kinds v past, is_target) refl in cc)
]

-- no steps, no hops
pub hops_none : (sight : Sight) → AreHops sight [] []
hops_none sight = λ walk low. refl

-- a step before steps
pub hops_more : (sight : Sight) (step : PathStep) (steps : List PathStep) (hop : List (List Traversal)) (hops : List (List (List Traversal)))
    → IsHop (length sight.kinds) hop (filter (is_kept sight.kinds step.targets hops) (step_walks step sight.types sight.edges))
    → AreHops sight steps hops → AreHops sight (step ∷ steps) (hop ∷ hops)
hops_more sight step steps hop hops is are = λ walk low.
    let F : Traversal → List Traversal = λ x. walks_on hops (on_along walk x) in
    let S : Traversal → List Candidate = λ x. steps_from sight steps (of_walk (on_along walk x)) in
    let fits : Traversal → Bool = λ x. is_target sight.kinds step.targets x.target in
    let walks : List Traversal = step_walks step sight.types sight.edges in
    let here : List Traversal = taken_from walk.target walks in
    let at : (x : Traversal) → cond (fits x) (map of_walk (F x)) [] ≡ cond (fits x) (S x) [] =
    λ x. elim (fits x) as (λ b. fits x ≡ b → cond b (map of_walk (F x)) [] ≡ cond b (S x) []) [
      | true ↦ λ yes. are (on_along walk x) (target_low sight.kinds step.targets x.target yes)
      | false ↦ λ _. refl
    ] refl in
    ap (λ l. map of_walk (flat_map F l)) (is walk.target low ∙ kept_taken sight.kinds step.targets hops walk.target low walks)
    ∙ ap (map of_walk) (pruned F (λ x. goes_on hops x.target) (filter fits here) (λ x dead. dead_end (on_along walk x) hops dead))
    ∙ map_flat_map of_walk F (filter fits here)
    ∙ flat_map_filter (λ x. map of_walk (F x)) fits here
    ∙ flat_map_same (λ x. cond (fits x) (map of_walk (F x)) []) (λ x. cond (fits x) (S x) []) at here
    ∙ sym (flat_map_filter S fits here)
    ∙ sym (flat_map-map (steps_from sight steps) (λ x. of_walk (on_along walk x)) (filter fits here))
    ∙ ap (flat_map (steps_from sight steps)) (went_step sight step walk)

-- the same on the code's data: the types and ends of rows, without their attributes
pub hop_before_is : (sight : Sight) (step : PathStep) (steps : List PathStep) (hop : List (List Traversal)) (hops : List (List (List Traversal)))
    (n : ℕ) (targets : List ℕ) (types : List EdgeType) (ends : List EdgeRow)
    → n ≡ length sight.kinds → targets ≡ step.targets → types ≡ sight.types → AreEnds ends sight.edges
    → IsHop n hop (filter (is_kept sight.kinds targets hops) (step_walks step types ends)) → AreHops sight steps hops → AreHops sight (step ∷ steps) (hop ∷ hops)
hop_before_is sight step steps hop hops n targets types ends count reached typed have is are =
    hops_more sight step steps hop hops
    (λ v low. is v (omega (arith, low, count))
    ∙ ap (λ t. taken_from v (filter (is_kept sight.kinds t hops) (step_walks step types ends))) reached
    ∙ ap (λ t. taken_from v (filter (is_kept sight.kinds step.targets hops) (step_walks step t ends))) typed
    ∙ ap (λ l. taken_from v (filter (is_kept sight.kinds step.targets hops) l)) (steps_alike step sight.types ends sight.edges have)) are
