-- SightLemmas: the definition of candidates, which enumerates numbered lists, restated over numbers.
use Rattle.std.proofs.Common.{ℕ, suc, ◌+◌, ◌≤◌, ◌≡◌, Bool, true, false, cond, List, [], ◌∷◌, ◌++◌, length, get_or, take, map, Option, Some, None, refl, ap, sym, ◌∙◌, arith}
use Rattle.std.specs.List.{filter, flat_map}
use Rattle.std.specs.Option.{option_to_list}
use Rattle.std.proofs.lemmas.List.{map-id, map_push, take_more, take_all, length-take}
use Rattle.std.proofs.lemmas.List.Folds.{flat_map-map}
use Rattle.std.proofs.lemmas.Simd.{map-map}
use Rattle.gq_graph.specs.declared.types.EdgeType.{EdgeType}
use Rattle.gq_graph.specs.declared.rows.EdgeRow.{EdgeRow}
use Rattle.gq_graph.specs.declared.rows.Pattern.{Pattern}
use Rattle.gq_graph.specs.declared.rows.Candidate.{Candidate}
use Rattle.gq_graph.specs.Candidates.{Sight, numbered, among, far_end, is_target, candidate_of, candidates_from, by_number}
use Rattle.gq_graph.specs.Edges.{edge_at, no_edge}
use Rattle.gq_index.specs.declared.walks.Traversal.{Traversal}
use Rattle.gq_index.specs.Places.{below}
use Rattle.gq_index.specs.Sights.{type_at, no_type}
use Rattle.gq_index.specs.Segments.{of_walk}
use Rattle.gq_index.specs.Walks.{walks_along}
use Rattle.gq_index.proofs.PlaceLemmas.{nat_up, below_more}
use Rattle.gq_index.proofs.WalkLemmas.{map_cond}

numbered_push : {A : Type 0} (n : ℕ) (xs : List A) (x : A) → numbered n (xs ++ x ∷ []) ≡ numbered n xs ++ (n + length xs, x) ∷ []
numbered_push n [] x = let e : n ≡ n + 0 = omega arith in ap (λ m. (m, x) ∷ []) e
numbered_push n (y ∷ ys) x =
    let e : suc n + length ys ≡ n + suc (length ys) = omega arith in
    ap (λ l. (n, y) ∷ l) (numbered_push (suc n) ys x ∙ ap (λ m. numbered (suc n) ys ++ (m, x) ∷ []) e)

-- items with their numbers, read by number
pub numbered_is : {A : Type 0} (xs : List A) (d : A) → numbered 0 xs ≡ map (λ k. (k, get_or xs k d)) (below (length xs))
numbered_is {A} xs d = ap (numbered 0) (sym (take_all (length xs) xs (omega arith))) ∙ nat_up P (λ _. refl) step (length xs) (omega arith)
  where
    R : ℕ → ℕ × A
    R k = (k, get_or xs k d)

    P : ℕ → Type 0
    P m = m ≤ length xs → numbered 0 (take m xs) ≡ map R (below m)

    step : (m : ℕ) → P m → P (m + 1)
    step m before h =
        let x : A = get_or xs m d in
        let long : 0 + length (take m xs) ≡ m = omega (arith, length-take m xs) in
        ap (numbered 0) (take_more xs m d (omega arith)) ∙ numbered_push 0 (take m xs) x
        ∙ ap (λ l. l ++ (0 + length (take m xs), x) ∷ []) (before (omega arith))
        ∙ ap (λ j. map R (below m) ++ (j, x) ∷ []) long
        ∙ sym (ap (map R) (below_more m) ∙ map_push R (below m) m)

pub filter_map : {X Y : Type 0} (p : Y → Bool) (f : X → Y) (xs : List X) → filter p (map f xs) ≡ map f (filter (λ x. p (f x)) xs)
filter_map p f [] = refl
filter_map p f (x ∷ xs) =
    elim (p (f x)) as (λ b. cond b (f x ∷ filter p (map f xs)) (filter p (map f xs)) ≡ map f (cond b (x ∷ filter (λ x. p (f x)) xs) (filter (λ x. p (f x)) xs))) [
      | true ↦ ap (λ l. f x ∷ l) (filter_map p f xs)
      | false ↦ filter_map p f xs
    ]

pub by_number_below : (sight : Sight) (set : List ℕ) → by_number sight set ≡ filter (among set) (below (length sight.kinds))
by_number_below sight set =
    let R : ℕ → ℕ × ℕ = λ k. (k, get_or sight.kinds k 0) in
    ap (λ (l : List (ℕ × ℕ)). filter (among set) (map (λ v. v.0) l)) (numbered_is sight.kinds 0)
    ∙ ap (filter (among set)) (map-map (λ (v : ℕ × ℕ). v.0) R (below (length sight.kinds)) ∙ map-id (below (length sight.kinds)))

-- the candidates of a vertex, a type and an edge are the walks along it that lead to a target
along_from : (sight : Sight) (pattern : Pattern) (v e r : ℕ) (far : Option ℕ) → far_end (e, type_at sight.types e) (edge_at sight.edges r) v ≡ far
    → map of_walk (filter (λ (w : Traversal). is_target sight.kinds pattern.targets w.target) (map (λ far. record { source = v; kind = e; row = r; target = far }) (option_to_list far)))
    ≡ candidate_of sight pattern v (e, type_at sight.types e) (r, edge_at sight.edges r)
along_from sight pattern v e r None is = rw (is, candidate_of) refl
along_from sight pattern v e r (Some w) is =
    rw (is, candidate_of) (map_cond of_walk (is_target sight.kinds pattern.targets w) (record { source = v; kind = e; row = r; target = w }))

pub along_is : (sight : Sight) (pattern : Pattern) (v e r : ℕ)
    → map of_walk (filter (λ (w : Traversal). is_target sight.kinds pattern.targets w.target) (walks_along sight.types v e r (edge_at sight.edges r)))
    ≡ candidate_of sight pattern v (e, type_at sight.types e) (r, edge_at sight.edges r)
along_is sight pattern v e r = along_from sight pattern v e r (far_end (e, type_at sight.types e) (edge_at sight.edges r) v) refl

-- the candidates of a vertex, by the numbers of types and edges
pub candidates_from_is : (sight : Sight) (pattern : Pattern) (v : ℕ)
    → candidates_from sight pattern v
    ≡ flat_map (λ e. flat_map (λ r. candidate_of sight pattern v (e, type_at sight.types e) (r, edge_at sight.edges r)) (below (length sight.edges)))
    (filter (among pattern.edges) (below (length sight.types)))
candidates_from_is sight pattern v =
    ap (λ (l : List (ℕ × EdgeType)). flat_map G (filter (λ type. among pattern.edges type.0) l)) (numbered_is sight.types no_type)
    ∙ ap (flat_map G) (filter_map (λ (type : ℕ × EdgeType). among pattern.edges type.0) T (below (length sight.types)))
    ∙ flat_map-map G T (filter (among pattern.edges) (below (length sight.types)))
    ∙ flat_map_same (λ e. G (T e)) (λ e. flat_map (λ r. candidate_of sight pattern v (T e) (E r)) (below (length sight.edges))) under
    (filter (among pattern.edges) (below (length sight.types)))
  where
    T : ℕ → ℕ × EdgeType
    T e = (e, type_at sight.types e)

    E : ℕ → ℕ × EdgeRow
    E r = (r, edge_at sight.edges r)

    G : ℕ × EdgeType → List Candidate
    G type = flat_map (candidate_of sight pattern v type) (numbered 0 sight.edges)

    under : (e : ℕ) → G (T e) ≡ flat_map (λ r. candidate_of sight pattern v (T e) (E r)) (below (length sight.edges))
    under e = ap (flat_map (candidate_of sight pattern v (T e))) (numbered_is sight.edges no_edge) ∙ flat_map-map (candidate_of sight pattern v (T e)) E (below (length sight.edges))

    flat_map_same : (f g : ℕ → List Candidate) → ((x : ℕ) → f x ≡ g x) → (xs : List ℕ) → flat_map f xs ≡ flat_map g xs
    flat_map_same f g same [] = refl
    flat_map_same f g same (x ∷ xs) = ap (λ l. l ++ flat_map f xs) (same x) ∙ ap (λ l. g x ++ l) (flat_map_same f g same xs)
