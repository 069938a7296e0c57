-- GatherLemmas: what one more way and one more source add to the kept walks.
use Rattle.std.proofs.Common.{ℕ, ◌+◌, ◌-◌, ◌<◌, ◌≤◌, ◌≡◌, Bool, false, cond, List, [], ◌∷◌, ◌++◌, length, get_or, take, map, Some, None, refl, ap, sym, subst, ◌∙◌, arith, append-nil}
use Rattle.std.specs.List.{filter, flat_map, slice_get}
use Rattle.std.proofs.lemmas.List.{append_assoc, get_or-append_right, length-append, take_more, map_push, get_or-map, length-map}
use Rattle.std.proofs.lemmas.List.Concat.{flat_map-append}
use Rattle.std.proofs.lemmas.List.Elements.{filter-append}
use Rattle.std.proofs.lemmas.Option.{slice_get-get_or, slice_get_past}
use Rattle.gq_graph.specs.declared.rows.VertexRow.{VertexRow}
use Rattle.gq_graph.specs.Candidates.{among, is_target}
use Rattle.gq_graph.specs.Vertices.{vertex_at, no_vertex}
use Rattle.gq_index.specs.declared.walks.Traversal.{Traversal}
use Rattle.gq_index.specs.declared.walks.Neighbor.{Neighbor}
use Rattle.gq_index.specs.Sights.{vertex_kinds}
use Rattle.gq_index.specs.Segments.{is_wanted, leads}
use Rattle.gq_index.specs.Stretches.{way_at}
use Rattle.gq_index.specs.Walks.{no_walk, walk_at, walked}
use Rattle.gq_index.proofs.SightLemmas.{filter_map}

-- an existing vertex is a target if its type is listed
pub target_there : (vertices : List VertexRow) (listed : List ℕ) (v : ℕ) → v < length vertices
    → is_target (vertex_kinds vertices) listed v ≡ among listed (vertex_at vertices v).kind
target_there vertices listed v h =
    let kind = λ (row : VertexRow). row.kind in
    let is : slice_get (vertex_kinds vertices) v ≡ Some (vertex_at vertices v).kind =
    slice_get-get_or (vertex_kinds vertices) v 0 (omega (arith, length-map vertices kind)) ∙ ap Some (get_or-map kind vertices v no_vertex 0 h)
    in rw (is, is_target) refl

pub target_past : (vertices : List VertexRow) (listed : List ℕ) (v : ℕ) → length vertices ≤ v → is_target (vertex_kinds vertices) listed v ≡ false
target_past vertices listed v h =
    let is : slice_get (vertex_kinds vertices) v ≡ None = slice_get_past (vertex_kinds vertices) v (omega (arith, length-map vertices (λ (row : VertexRow). row.kind)))
    in rw (is, is_target) refl

wanted_more : (p : Traversal → Bool) (v i : ℕ) (ways : List Neighbor) (d : Neighbor) → i < length ways
    → filter p (map (walked v) (take (i + 1) ways))
    ≡ filter p (map (walked v) (take i ways)) ++ cond (p (walked v (get_or ways i d))) (walked v (get_or ways i d) ∷ []) []
wanted_more p v i ways d h =
    ap (λ l. filter p (map (walked v) l)) (take_more ways i d h) ∙ ap (filter p) (map_push (walked v) (take i ways) (get_or ways i d))
    ∙ filter-append p (map (walked v) (take i ways)) (walked v (get_or ways i d) ∷ [])

-- the wanted walks after one more way
pub added_is : (p : Traversal → Bool) (v i : ℕ) (ways : List Neighbor) (d : Neighbor) (before : List Traversal) → i < length ways
    → (before ++ filter p (map (walked v) (take i ways))) ++ filter p (walked v (get_or ways i d) ∷ []) ≡ before ++ filter p (map (walked v) (take (i + 1) ways))
added_is p v i ways d before h =
    append_assoc before (filter p (map (walked v) (take i ways))) (filter p (walked v (get_or ways i d) ∷ []))
    ∙ ap (λ l. before ++ l) (sym (wanted_more p v i ways d h))

-- the wanted walks after one more source
pub gathered_more : (F : ℕ → List Traversal) (sources : List ℕ) (i : ℕ) (last : List Traversal) → i < length sources → last ≡ F (get_or sources i 0)
    → flat_map F (take i sources) ++ last ≡ flat_map F (take (i + 1) sources)
gathered_more F sources i last h is =
    ap (λ l. flat_map F (take i sources) ++ l) (is ∙ sym (append-nil (F (get_or sources i 0))))
    ∙ sym (ap (flat_map F) (take_more sources i 0 h) ∙ flat_map-append F (take i sources) (get_or sources i 0 ∷ []))

-- the walks along the wanted ways of a vertex are the wanted ones
pub wanted_walks : (edges kinds targets : List ℕ) (v : ℕ) (ways : List Neighbor)
    → map (walked v) (filter (leads edges kinds targets) ways) ≡ filter (is_wanted edges kinds targets) (map (walked v) ways)
wanted_walks edges kinds targets v ways = sym (filter_map (is_wanted edges kinds targets) (walked v) ways)

-- the source of the last walk is below a number if the vertex of the last ways is, and the source before
pub last_source : (walks : List Traversal) (v u : ℕ) (ways : List Neighbor) → v < u → (0 < length walks → (walk_at walks (length walks - 1)).source < u)
    → 0 < length (walks ++ map (walked v) ways) → (walk_at (walks ++ map (walked v) ways) (length (walks ++ map (walked v) ways) - 1)).source < u
last_source walks v u [] less before some =
    let P : List Traversal → Type 0 = λ l. 0 < length l → (walk_at l (length l - 1)).source < u in
    subst P (sym (append-nil walks)) before some
last_source walks v u (way ∷ ways) less before some =
    let all : List Neighbor = way ∷ ways in
    let long = length-append walks (map (walked v) all) in let many = length-map all (walked v) in
    let i : ℕ = length (walks ++ map (walked v) all) - 1 in
    let same : i - length walks ≡ length ways = omega arith in
    let last : walk_at (walks ++ map (walked v) all) i ≡ walked v (way_at all (length ways)) =
    get_or-append_right walks (map (walked v) all) (length walks) i no_walk refl (omega arith)
    ∙ ap (walk_at (map (walked v) all)) same
    ∙ get_or-map (walked v) all (length ways) (record { kind = 0; row = 0; target = 0 }) no_walk (omega arith) in
    rw last less
