-- CandidateLemmas: the walks that are kept are the candidates, and their runs the segments.
use Rattle.std.proofs.Common.{ℕ, ◌-◌, ◌<◌, ◌≡◌, Bool, true, false, cond, List, [], ◌∷◌, ◌&&◌, length, get_or, map, Some, refl, ap, sym, ◌∙◌, arith, zero-add}
use Rattle.std.specs.List.{filter, flat_map, slice_get}
use Rattle.std.specs.Option.{option_to_list}
use Rattle.std.proofs.lemmas.List.{get_or-map, length-map}
use Rattle.std.proofs.lemmas.List.FromFn.{get_or-map-range_with_len, length-map-range_with_len}
use Rattle.std.proofs.lemmas.Option.{slice_get-get_or}
use Rattle.gq_graph.specs.declared.rows.EdgeRow.{EdgeRow}
use Rattle.gq_graph.specs.declared.types.EdgeType.{EdgeType}
use Rattle.gq_graph.specs.declared.rows.Pattern.{Pattern}
use Rattle.gq_graph.specs.declared.rows.Candidate.{Candidate}
use Rattle.gq_graph.specs.Candidates.{Sight, among, far_end, is_target, candidate_of, candidates_from, candidates, by_number, alone}
use Rattle.gq_graph.specs.Edges.{edge_at}
use Rattle.gq_index.specs.declared.walks.Traversal.{Traversal}
use Rattle.gq_index.specs.Places.{below, many}
use Rattle.gq_index.specs.Sights.{type_at}
use Rattle.gq_index.specs.Walks.{no_walk, walk_at, walks_at, walks_along, walks_under, walks_from, adjacency}
use Rattle.gq_index.specs.Runs.{opens, run_count}
use Rattle.gq_index.specs.Segments.{of_walk, candidate_at, opens_beside, opens_segment, segment_count, is_wanted}
use Rattle.gq_index.proofs.RunLemmas.{many_agree}
use Rattle.gq_index.proofs.WalkLemmas.{filter_flat_map, flat_map_filter, flat_map_agree}
use Rattle.gq_index.proofs.IndexLemmas.{map_flat_map}
use Rattle.gq_index.proofs.SightLemmas.{by_number_below, along_is, candidates_from_is}

-- the flags of the numbers below a count say which of them are listed
pub flagged_is : (listed : List ℕ) (flags : List Bool) (k : ℕ) → flags ≡ map (among listed) (below (length flags)) → k < length flags
    → get_or flags k false ≡ among listed k
flagged_is listed flags k are h =
    ap (λ l. get_or l k false) are ∙ get_or-map-range_with_len (among listed) 0 (length flags) k k false h (zero-add k)

-- there are as many flags as numbers below the count
pub flags_fit : (listed : List ℕ) (flags : List Bool) (count : ℕ) → flags ≡ map (among listed) (below count)
    → flags ≡ map (among listed) (below (length flags))
flags_fit listed flags count are =
    let long : length flags ≡ count = ap length are ∙ length-map-range_with_len (among listed) 0 count in
    are ∙ ap (λ n. map (among listed) (below n)) (sym long)

chosen_only : (chosen : Bool) (fits : ℕ → Bool) (walks : List Traversal)
    → filter (λ (w : Traversal). chosen && fits w.target) walks ≡ cond chosen (filter (λ (w : Traversal). fits w.target) walks) []
chosen_only true fits walks = refl
chosen_only false fits [] = refl
chosen_only false fits (w ∷ walks) = chosen_only false fits walks

-- walks of one type are chosen or dropped together
chosen_kind : (chooses fits : ℕ → Bool) (v e r : ℕ) (fars : List ℕ)
    → filter (λ (w : Traversal). chooses w.kind && fits w.target) (map (λ far. record { source = v; kind = e; row = r; target = far }) fars)
    ≡ filter (λ (w : Traversal). chooses e && fits w.target) (map (λ far. record { source = v; kind = e; row = r; target = far }) fars)
chosen_kind chooses fits v e r [] = refl
chosen_kind chooses fits v e r (x ∷ xs) =
    ap (λ (l : List Traversal). cond (chooses e && fits x) ((record { source = v; kind = e; row = r; target = x }) ∷ l) l) (chosen_kind chooses fits v e r xs)

flat_map_nothing : (xs : List ℕ) → flat_map {X = ℕ} {A = Traversal} (λ _. []) xs ≡ []
flat_map_nothing [] = refl
flat_map_nothing (x ∷ xs) = flat_map_nothing xs

none_or_all : (b : Bool) (f : ℕ → List Traversal) (xs : List ℕ) → flat_map (λ r. cond b (f r) []) xs ≡ cond b (flat_map f xs) []
none_or_all true f xs = refl
none_or_all false f xs = flat_map_nothing xs

-- the wanted walks from a vertex under one type
wanted_under : (types : List EdgeType) (edges : List EdgeRow) (chooses fits : ℕ → Bool) (v e : ℕ)
    → filter (λ (w : Traversal). chooses w.kind && fits w.target) (walks_under types edges v e)
    ≡ cond (chooses e) (flat_map (λ r. filter (λ (w : Traversal). fits w.target) (walks_along types v e r (edge_at edges r))) (below (length edges))) []
wanted_under types edges chooses fits v e =
    let A : ℕ → List Traversal = λ r. walks_along types v e r (edge_at edges r) in
    let F : List Traversal → List Traversal = filter (λ (w : Traversal). chooses w.kind && fits w.target) in
    let K : ℕ → List Traversal = λ r. filter (λ (w : Traversal). fits w.target) (A r) in
    filter_flat_map (λ (w : Traversal). chooses w.kind && fits w.target) A (below (length edges))
    ∙ flat_map_agree (λ r. F (A r)) (λ r. cond (chooses e) (K r) []) (length edges)
    (λ r _. chosen_kind chooses fits v e r (option_to_list (far_end (e, type_at types e) (edge_at edges r) v)) ∙ chosen_only (chooses e) fits (A r))
    ∙ none_or_all (chooses e) K (below (length edges))

-- the wanted walks from a vertex are its candidates
wanted_from : (sight : Sight) (pattern : Pattern) (v : ℕ)
    → map of_walk (filter (λ (w : Traversal). among pattern.edges w.kind && is_target sight.kinds pattern.targets w.target) (walks_from sight.types sight.edges v))
    ≡ candidates_from sight pattern v
wanted_from sight pattern v =
    let fits : ℕ → Bool = is_target sight.kinds pattern.targets in
    let n : ℕ = length sight.types in let m : ℕ = length sight.edges in
    let F : List Traversal → List Traversal = filter (λ (w : Traversal). among pattern.edges w.kind && fits w.target) in
    let A : ℕ → ℕ → List Traversal = λ e r. filter (λ (w : Traversal). fits w.target) (walks_along sight.types v e r (edge_at sight.edges r)) in
    let C : ℕ → ℕ → List Candidate = λ e r. candidate_of sight pattern v (e, type_at sight.types e) (r, edge_at sight.edges r) in
    ap (map of_walk) (filter_flat_map (λ (w : Traversal). among pattern.edges w.kind && fits w.target) (walks_under sight.types sight.edges v) (below n)
    ∙ flat_map_agree (λ e. F (walks_under sight.types sight.edges v e)) (λ e. cond (among pattern.edges e) (flat_map (A e) (below m)) []) n
    (λ e _. wanted_under sight.types sight.edges (among pattern.edges) fits v e)
    ∙ sym (flat_map_filter (λ e. flat_map (A e) (below m)) (among pattern.edges) (below n)))
    ∙ map_flat_map of_walk (λ e. flat_map (A e) (below m)) (filter (among pattern.edges) (below n))
    ∙ flat_map_filter (λ e. map of_walk (flat_map (A e) (below m))) (among pattern.edges) (below n)
    ∙ flat_map_agree (λ e. cond (among pattern.edges e) (map of_walk (flat_map (A e) (below m))) []) (λ e. cond (among pattern.edges e) (flat_map (C e) (below m)) []) n
    (λ e _. ap (λ l. cond (among pattern.edges e) l []) (map_flat_map of_walk (A e) (below m)
    ∙ flat_map_agree (λ r. map of_walk (A e r)) (C e) m (λ r _. along_is sight pattern v e r)))
    ∙ sym (flat_map_filter (λ e. flat_map (C e) (below m)) (among pattern.edges) (below n))
    ∙ sym (candidates_from_is sight pattern v)

-- the walks that are kept from an index are the candidates
pub gathered_is : (sight : Sight) (pattern : Pattern) (set : List ℕ) (index : List (List Traversal)) (sources : List ℕ)
    → index ≡ adjacency sight → sources ≡ by_number sight set
    → map of_walk (flat_map (λ v. filter (is_wanted pattern.edges sight.kinds pattern.targets) (walks_at index v)) sources) ≡ candidates sight set (Some pattern)
gathered_is sight pattern set index sources indexed ordered =
    ap (λ l. map of_walk (flat_map F l)) (ordered ∙ by_number_below sight set)
    ∙ map_flat_map of_walk F (filter (among set) (below n))
    ∙ flat_map_filter (λ v. map of_walk (F v)) (among set) (below n)
    ∙ flat_map_agree (λ v. cond (among set v) (map of_walk (F v)) []) (λ v. cond (among set v) (candidates_from sight pattern v) []) n
    (λ v h. ap (λ l. cond (among set v) l []) (at v h))
    ∙ sym (flat_map_filter (candidates_from sight pattern) (among set) (below n))
    ∙ ap (flat_map (candidates_from sight pattern)) (sym (by_number_below sight set))
  where
    n : ℕ
    n = length sight.kinds

    F : ℕ → List Traversal
    F v = filter (is_wanted pattern.edges sight.kinds pattern.targets) (walks_at index v)

    at : (v : ℕ) → v < n → map of_walk (F v) ≡ candidates_from sight pattern v
    at v h =
        ap (λ l. map of_walk (filter (is_wanted pattern.edges sight.kinds pattern.targets) (walks_at l v))) indexed
        ∙ ap (λ l. map of_walk (filter (is_wanted pattern.edges sight.kinds pattern.targets) l))
        (get_or-map-range_with_len (walks_from sight.types sight.edges) 0 n v v [] h (zero-add v))
        ∙ wanted_from sight pattern v

-- the same of walks that are known to be those, and of types that are known to be the pattern's
pub found_is : (sight : Sight) (pattern : Pattern) (set edges targets : List ℕ) (index : List (List Traversal)) (sources : List ℕ) (walks : List Traversal)
    → index ≡ adjacency sight → sources ≡ by_number sight set → edges ≡ pattern.edges → targets ≡ pattern.targets
    → walks ≡ flat_map (λ v. filter (is_wanted edges sight.kinds targets) (walks_at index v)) sources → map of_walk walks ≡ candidates sight set (Some pattern)
found_is sight pattern set edges targets index sources walks indexed ordered which where_to found =
    ap (map of_walk) (found
    ∙ ap (λ e. flat_map (λ v. filter (is_wanted e sight.kinds targets) (walks_at index v)) sources) which
    ∙ ap (λ t. flat_map (λ v. filter (is_wanted pattern.edges sight.kinds t) (walks_at index v)) sources) where_to)
    ∙ gathered_is sight pattern set index sources indexed ordered

walk_candidate : (walks : List Traversal) (i : ℕ) → i < length walks → candidate_at (map of_walk walks) i ≡ of_walk (walk_at walks i)
walk_candidate walks i h = get_or-map of_walk walks i no_walk (alone 0) h

opens_same : (walks : List Traversal) (i : ℕ) → i < length walks → opens_segment (map of_walk walks) i ≡ opens walks i
opens_same walks i h =
    let O : Candidate → Candidate → Bool = λ a b. opens_beside i a b in
    ap (λ a. O a (candidate_at (map of_walk walks) (i - 1))) (walk_candidate walks i h)
    ∙ ap (λ b. O (of_walk (walk_at walks i)) b) (walk_candidate walks (i - 1) (omega arith))

-- the segments of the candidates are the runs of the walks
pub segments_are : (walks : List Traversal) → segment_count (map of_walk walks) ≡ run_count walks
unfolding segment_count run_count
segments_are walks =
    ap (many (opens_segment (map of_walk walks))) (length-map walks of_walk)
    ∙ many_agree (opens_segment (map of_walk walks)) (opens walks) (length walks) (opens_same walks)

-- the candidate of the walk at a place
pub walk_found : (walks : List Traversal) (i : ℕ) (w : Traversal) → i < length walks → w ≡ walk_at walks i → slice_get (map of_walk walks) i ≡ Some (of_walk w)
walk_found walks i w h e =
    slice_get-get_or (map of_walk walks) i (alone 0) (omega (arith, length-map walks of_walk))
    ∙ ap Some (walk_candidate walks i h ∙ ap of_walk (sym e))

-- the candidate of the vertex at a place
pub vertex_found : (vertices : List ℕ) (i v : ℕ) → i < length vertices → v ≡ get_or vertices i 0 → slice_get (map alone vertices) i ≡ Some (alone v)
vertex_found vertices i v h e =
    slice_get-get_or (map alone vertices) i (alone 0) (omega (arith, length-map vertices alone))
    ∙ ap Some (get_or-map alone vertices i 0 (alone 0) h ∙ ap alone (sym e))
