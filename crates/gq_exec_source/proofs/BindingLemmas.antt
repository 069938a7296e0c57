-- BindingLemmas: the walks from all vertices of a set are the bindings.
use Rattle.std.proofs.Common.{ℕ, ◌+◌, ◌-◌, ◌<◌, ◌≤◌, ◌≡◌, cond, List, [], ◌∷◌, ◌++◌, length, get_or, take, drop, map, None, refl, ap, sym, ◌∙◌, subst, arith}
use Rattle.std.specs.List.{filter, flat_map}
use Rattle.std.proofs.lemmas.List.{length-map, drop_more, take_rest}
use Rattle.gq_graph.specs.declared.rows.Candidate.{Candidate}
use Rattle.gq_graph.specs.Candidates.{Sight, among, by_number, alone, candidates}
use Rattle.gq_index.specs.declared.walks.Traversal.{Traversal}
use Rattle.gq_index.specs.Places.{below}
use Rattle.gq_index.specs.Segments.{of_walk}
use Rattle.gq_index.proofs.WalkLemmas.{flat_map_filter, flat_map_agree}
use Rattle.gq_index.proofs.IndexLemmas.{map_flat_map}
use Rattle.gq_index.proofs.SightLemmas.{by_number_below}
use Rattle.gq_rules_typing.specs.Patterns.{PathStep}
use Rattle.gq_rules_meaning.specs.Paths.{steps_from, bindings}
use Rattle.gq_exec_source.specs.declared.path_types.PathStep as code
use Rattle.gq_exec_source.specs.Ways.{step_of}
use Rattle.gq_exec_source.specs.Hops.{walks_at, on_along, walks_on, start_at, walks_from, AreHops}
use Rattle.gq_exec_source.proofs.ListLemmas.{flat_map_single, too_many}

pub from_start : (sight : Sight) (steps : List PathStep) (v : ℕ) → 0 < length steps → steps_from sight steps (of_walk (start_at v)) ≡ steps_from sight steps (alone v)
from_start sight [] v some = absurd (omega (arith, some))
from_start sight (step ∷ steps) v some = refl

pub bindings_are : (sight : Sight) (steps : List PathStep) (set sources : List ℕ) (hops : List (List (List Traversal))) → 0 < length steps
    → AreHops sight steps hops → sources ≡ by_number sight set → map of_walk (walks_from hops sources) ≡ bindings sight set steps
bindings_are sight steps set sources hops some are ordered =
    let F : ℕ → List Traversal = λ v. walks_on hops (start_at v) in
    let S : ℕ → List Candidate = λ v. steps_from sight steps (alone v) in
    let n : ℕ = length sight.kinds in
    ap (λ l. map of_walk (flat_map F l)) (ordered ∙ by_number_below sight set)
    ∙ map_flat_map of_walk F (filter (among set) (below n))
    ∙ flat_map_filter (λ v. map of_walk (F v)) (among set) (below n)
    ∙ flat_map_agree (λ v. cond (among set v) (map of_walk (F v)) []) (λ v. cond (among set v) (S v) []) n
    (λ v low. ap (λ l. cond (among set v) l []) (are (start_at v) low ∙ from_start sight steps v some))
    ∙ sym (flat_map_filter S (among set) (below n))
    ∙ ap (flat_map S) (sym (by_number_below sight set))

-- how many there are
pub as_many : (sight : Sight) (steps : List PathStep) (set sources : List ℕ) (hops : List (List (List Traversal))) → 0 < length steps
    → AreHops sight steps hops → sources ≡ by_number sight set → length (walks_from hops sources) ≡ length (bindings sight set steps)
as_many sight steps set sources hops some are ordered =
    sym (length-map (walks_from hops sources) of_walk) ∙ ap length (bindings_are sight steps set sources hops some are ordered)

-- without a step they are the vertices of the set
pub no_steps : (sight : Sight) (set : List ℕ) → candidates sight set None ≡ bindings sight set []
no_steps sight set = sym (flat_map_single alone (by_number sight set))

-- ---- a list by its first item and the others

pub split_first : {X : Type 0} (xs : List X) (x : X) → 1 ≤ length xs → x ≡ get_or xs 0 x → xs ≡ x ∷ take (length xs - 1) (drop 1 xs)
split_first xs x some is = drop_more xs 0 x some ∙ ap (λ y. y ∷ drop 1 xs) (sym is) ∙ ap (λ ys. x ∷ ys) (sym (take_rest xs 1))

-- the hop of the first step before those of the others
pub hops_next : (sight : Sight) (steps : List code.PathStep) (step : code.PathStep) (hop : List (List Traversal)) (hops held all : List (List (List Traversal)))
    → 1 ≤ length steps → step ≡ get_or steps 0 step → hops ≡ held → all ≡ hop ∷ held
    → ((others : List PathStep) → AreHops sight others hops → AreHops sight (step_of step ∷ others) (hop ∷ hops))
    → AreHops sight (map step_of (take (length steps - 1) (drop 1 steps))) held → AreHops sight (map step_of steps) all
hops_next sight steps step hop hops held all some first same is more are =
    let rest : List code.PathStep = take (length steps - 1) (drop 1 steps) in
    let P : List code.PathStep → Type 0 = λ l. AreHops sight (map step_of l) all in
    let Q : List (List (List Traversal)) → Type 0 = λ l. AreHops sight (map step_of (step ∷ rest)) l in
    let R : List (List (List Traversal)) → Type 0 = λ l. AreHops sight (map step_of rest) l in
    subst P (sym (split_first steps step some first))
    (subst Q (sym (is ∙ ap (λ l. hop ∷ l) (sym same))) (more (map step_of rest) (subst R (sym same) are)))

-- if the continuations of one more walk are too many, all are
pub many_on : (hops : List (List (List Traversal))) (hop : List (List Traversal)) (walk : Traversal) (ways : List Traversal) (i : ℕ) (d : Traversal) (before now : List Candidate)
    → 1 ≤ length hops → hop ≡ get_or hops 0 hop → ways ≡ walks_at hop walk.target → i < length ways
    → now ≡ before ++ map of_walk (flat_map (λ next. walks_on (take (length hops - 1) (drop 1 hops)) (on_along walk next)) (take i ways))
    → 4194304 < length now + length (walks_on (take (length hops - 1) (drop 1 hops)) (on_along walk (get_or ways i d)))
    → 4194304 < length before + length (walks_on hops walk)
many_on hops hop walk ways i d before now some first are h was more =
    let F : Traversal → List Traversal = λ next. walks_on (take (length hops - 1) (drop 1 hops)) (on_along walk next) in
    let P : List (List (List Traversal)) → Type 0 = λ l. 4194304 < length before + length (walks_on l walk) in
    let Q : List Traversal → Type 0 = λ l. 4194304 < length before + length (flat_map F l) in
    subst P (sym (split_first hops hop some first)) (subst Q are (too_many of_walk F ways i d before now 4194304 h was more))

-- ---- the bindings

pub steps_some : (steps : List code.PathStep) → 0 < length steps → 0 < length (map step_of steps)
steps_some steps some = omega (arith, some, length-map steps step_of)

pub all_listed : (sight : Sight) (steps : List code.PathStep) (set sources from : List ℕ) (hops held : List (List (List Traversal))) (none done cs : List Candidate)
    → 0 < length steps → AreHops sight (map step_of steps) held → hops ≡ held → from ≡ sources → sources ≡ by_number sight set
    → none ≡ [] → done ≡ none ++ map of_walk (walks_from hops from) → cs ≡ done → cs ≡ bindings sight set (map step_of steps)
all_listed sight steps set sources from hops held none done cs some are same taken ordered empty is result =
    result ∙ is ∙ ap (λ l. l ++ map of_walk (walks_from hops from)) empty
    ∙ ap (λ l. map of_walk (walks_from l from)) same ∙ ap (λ l. map of_walk (walks_from held l)) taken
    ∙ bindings_are sight (map step_of steps) set sources held (steps_some steps some) are ordered

pub all_many : (sight : Sight) (steps : List code.PathStep) (set sources from : List ℕ) (hops held : List (List (List Traversal))) (none : List Candidate)
    → 0 < length steps → AreHops sight (map step_of steps) held → hops ≡ held → from ≡ sources → sources ≡ by_number sight set
    → none ≡ [] → 4194304 < length none + length (walks_from hops from) → 4194304 < length (bindings sight set (map step_of steps))
all_many sight steps set sources from hops held none some are same taken ordered empty more =
    omega (
      arith,
      more,
      ap length empty,
      ap (λ l. length (walks_from l from)) same ∙ ap (λ l. length (walks_from held l)) taken,
      as_many sight (map step_of steps) set sources held (steps_some steps some) are ordered,
    )
