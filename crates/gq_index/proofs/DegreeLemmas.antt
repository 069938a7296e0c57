-- DegreeLemmas: the walks from a vertex are ordered by type, and there are as many of one type as edges that can be
-- walked.
use Rattle.std.proofs.Common.{inl, inr, ℕ, zero, suc, ◌+◌, ◌-◌, ◌<◌, ◌≤◌, ◌≡◌, ◌≢◌, Bool, true, false, cond, List, [], ◌∷◌, ◌++◌, ◌==◌, length, get_or, take, drop, map, Option, Some, None, refl, ap, sym, ◌∙◌, subst, arith, leb, ltb, leb-true, eq-eqb, zero-add, append-nil, length-append}
use Rattle.std.specs.List.{filter, flat_map, All, count_by, slice_get}
use Rattle.std.specs.List.Sorted.{IsNonDecreasingBy, IsPartitionPoint}
use Rattle.std.specs.Option.{is_some, option_to_list}
use Rattle.std.proofs.lemmas.List.{get_or-drop, get_or-map, length-drop, length-map, take_all}
use Rattle.std.proofs.lemmas.List.Elements.{filter_more, All-nil, All-cons, All-append, All-weaker, All-head, All-tail}
use Rattle.std.proofs.lemmas.List.Sorted.{IsNonDecreasingBy-from_default}
use Rattle.std.proofs.lemmas.List.Sums.{length-filter}
use Rattle.std.proofs.lemmas.Option.{get_or_from_slice_get, slice_get_within}
use Rattle.std.proofs.lemmas.Bool.{cases_eq, ltb-false}
use Rattle.std.proofs.lemmas.Bool.Decides.{nat_tests}
use Rattle.gq_graph.specs.declared.types.EdgeType.{EdgeType}
use Rattle.gq_graph.specs.declared.rows.EdgeRow.{EdgeRow}
use Rattle.gq_graph.specs.Candidates.{Sight, far_end, degree}
use Rattle.gq_graph.specs.Edges.{edge_at, no_edge}
use Rattle.gq_index.specs.declared.walks.Traversal.{Traversal}
use Rattle.gq_index.specs.declared.walks.Neighbor.{Neighbor}
use Rattle.gq_index.specs.Places.{below}
use Rattle.gq_index.specs.Sights.{type_at, no_type}
use Rattle.gq_index.specs.Walks.{no_walk, walk_at, walked, walks_along, walks_under, walks_from}
use Rattle.gq_index.proofs.PlaceLemmas.{nat_up}
use Rattle.gq_index.proofs.WalkLemmas.{filter_flat_map, flat_map_below, flat_map_agree, All-flat_map, all_below}
use Rattle.gq_index.proofs.RunLemmas.{count_cons, count_front}

-- types ascend, and the first is at least a
abbrev Climbs : ℕ → List Traversal → Type 0
Climbs a [] = Unit {0}
Climbs a (w ∷ ws) = (a ≤ w.kind) × Climbs w.kind ws

climbs_lower : (a b : ℕ) (ws : List Traversal) → a ≤ b → Climbs b ws → Climbs a ws
climbs_lower a b [] low up = tt
climbs_lower a b (w ∷ ws) low up = (omega (arith, up.0), up.1)

climbs_append : (a b : ℕ) (xs ys : List Traversal) → Climbs a xs → All (λ (w : Traversal). w.kind ≤ b) xs → a ≤ b → Climbs b ys → Climbs a (xs ++ ys)
climbs_append a b [] ys up high low after = climbs_lower a b ys low after
climbs_append a b (x ∷ xs) ys up high low after =
    (up.0, climbs_append x.kind b xs ys up.1 (All-tail (λ (w : Traversal). w.kind ≤ b) x xs high) (All-head (λ (w : Traversal). w.kind ≤ b) x xs high) after)

climbs_same : (e : ℕ) (ws : List Traversal) → All (λ (w : Traversal). w.kind ≡ e) ws → Climbs e ws
climbs_same e [] all = tt
climbs_same e (w ∷ ws) all =
    let is : w.kind ≡ e = All-head (λ (w : Traversal). w.kind ≡ e) w ws all in
    let P : ℕ → Type 0 = λ n. Climbs n ws in
    (omega (arith, is), subst P (sym is) (climbs_same e ws (All-tail (λ (w : Traversal). w.kind ≡ e) w ws all)))

climbs_at : (a : ℕ) (ws : List Traversal) (i : ℕ) → Climbs a ws → i < length ws → a ≤ (walk_at ws i).kind
climbs_at a [] i up h = absurd (omega arith)
climbs_at a (w ∷ ws) zero up h = up.0
climbs_at a (w ∷ ws) (suc i) up h = omega (arith, up.0, climbs_at w.kind ws i up.1 (omega arith))

climbs_two : (a : ℕ) (ws : List Traversal) (i j : ℕ) → Climbs a ws → i ≤ j → j < length ws → (walk_at ws i).kind ≤ (walk_at ws j).kind
climbs_two a [] i j up le h = absurd (omega arith)
climbs_two a (w ∷ ws) zero zero up le h = omega arith
climbs_two a (w ∷ ws) zero (suc j) up le h = climbs_at w.kind ws j up.1 (omega arith)
climbs_two a (w ∷ ws) (suc i) zero up le h = absurd (omega arith)
climbs_two a (w ∷ ws) (suc i) (suc j) up le h = climbs_two w.kind ws i j up.1 (omega arith) (omega arith)

pub one_kind : (v e r : ℕ) (fars : List ℕ) → All (λ (w : Traversal). w.kind ≡ e) (map (λ far. record { source = v; kind = e; row = r; target = far }) fars)
one_kind v e r [] = All-nil (λ (w : Traversal). w.kind ≡ e)
one_kind v e r (x ∷ xs) =
    All-cons (λ (w : Traversal). w.kind ≡ e) (record { source = v; kind = e; row = r; target = x }) (map (λ far. record { source = v; kind = e; row = r; target = far }) xs)
    refl (one_kind v e r xs)

-- the walks under a type have that type
under_kind : (types : List EdgeType) (edges : List EdgeRow) (v e : ℕ) → All (λ (w : Traversal). w.kind ≡ e) (walks_under types edges v e)
under_kind types edges v e =
    All-flat_map (λ (w : Traversal). w.kind ≡ e) (λ r. r < length edges) (λ r. walks_along types v e r (edge_at edges r))
    (λ r _. one_kind v e r (option_to_list (far_end (e, type_at types e) (edge_at edges r) v))) (below (length edges)) (all_below (length edges))

from_climbs : (types : List EdgeType) (edges : List EdgeRow) (v n : ℕ)
    → Climbs 0 (flat_map (walks_under types edges v) (below n)) × All (λ (w : Traversal). w.kind < n) (flat_map (walks_under types edges v) (below n))
from_climbs types edges v = nat_up P (tt, All-nil (λ (w : Traversal). w.kind < 0)) step
  where
    F : ℕ → List Traversal
    F n = flat_map (walks_under types edges v) (below n)

    P : ℕ → Type 0
    P n = Climbs 0 (F n) × All (λ (w : Traversal). w.kind < n) (F n)

    step : (n : ℕ) → P n → P (n + 1)
    step n before =
        let last : List Traversal = walks_under types edges v n in
        let same = under_kind types edges v n in
        rw (flat_map_below (walks_under types edges v) n) (
          climbs_append 0 n (F n) last before.0 (All-weaker (λ (w : Traversal). w.kind < n) (λ (w : Traversal). w.kind ≤ n) (λ w h. omega arith) (F n) before.1) (omega arith) (climbs_same n last same),
          All-append (λ (w : Traversal). w.kind < n + 1) (F n) last
              (All-weaker (λ (w : Traversal). w.kind < n) (λ (w : Traversal). w.kind < n + 1) (λ w h. omega arith) (F n) before.1)
              (All-weaker (λ (w : Traversal). w.kind ≡ n) (λ (w : Traversal). w.kind < n + 1) (λ w h. omega arith) last same),
        )

no_way : Neighbor
no_way = record { kind = 0; row = 0; target = 0 }

-- the types of the ways from a vertex ascend
pub ways_climb : (types : List EdgeType) (edges : List EdgeRow) (v : ℕ) (ways : List Neighbor) → map (walked v) ways ≡ walks_from types edges v
    → IsNonDecreasingBy (λ (way : Neighbor). way.kind) ways
unfolding no_way
ways_climb types edges v ways are = IsNonDecreasingBy-from_default (λ (way : Neighbor). way.kind) ways no_way at
  where
    W : List Traversal
    W = map (walked v) ways

    kind : (i : ℕ) → i < length ways → (walk_at W i).kind ≡ (get_or ways i no_way).kind
    kind i h = ap (λ (w : Traversal). w.kind) (get_or-map (walked v) ways i no_way no_walk h)

    up : Climbs 0 W
    up = subst (Climbs 0) (sym are) (from_climbs types edges v (length types)).0

    at : (i j : ℕ) → i ≤ j → j < length ways → (get_or ways i no_way).kind ≤ (get_or ways j no_way).kind
    at i j le h = omega (arith, kind i (omega arith), kind j h, climbs_two 0 W i j up le (omega (arith, length-map ways (walked v))))

-- if the first n fail, only the others count
count_behind : {X : Type 0} (p : X → Bool) (d : X) (xs : List X) (n : ℕ) → n ≤ length xs → ((i : ℕ) → i < n → p (get_or xs i d) ≡ false)
    → count_by p xs ≡ count_by p (drop n xs)
count_behind p d xs zero h none = refl
count_behind p d [] (suc n) h none = absurd (omega arith)
count_behind p d (x ∷ xs) (suc n) h none =
    count_cons p x xs ∙ ap (λ b. cond b 1 0 + count_by p xs) (none 0 (omega arith)) ∙ zero-add (count_by p xs)
    ∙ count_behind p d xs n (omega arith) (λ i l. none (suc i) (omega arith))

lower_differs : (a k : ℕ) → ltb a k ≡ true → (a == k) ≡ false
lower_differs a k h = grind (arith, nat_tests)

higher_differs : (a k : ℕ) → leb a k ≡ false → (a == k) ≡ false
higher_differs a k h = grind (arith, nat_tests)

-- the ways of a type lie between the two positions
pub part_count : (ways rest : List Neighbor) (first r k : ℕ) → first ≤ length ways
    → IsPartitionPoint (λ (way : Neighbor). ltb way.kind k ≡ true) (λ (way : Neighbor). ltb way.kind k ≡ false) ways first
    → rest ≡ drop first ways → r ≤ length rest
    → IsPartitionPoint (λ (way : Neighbor). leb way.kind k ≡ true) (λ (way : Neighbor). leb way.kind k ≡ false) rest r
    → count_by (λ (way : Neighbor). way.kind == k) ways ≡ r
part_count ways rest first r k low point is high point' =
    count_behind has no_way ways first low (λ i h. lower_differs (get_or ways i no_way).kind k (point.0 i no_way (omega arith) h))
    ∙ ap (count_by has) (sym is)
    ∙ count_front has no_way rest r high here (λ j g h. higher_differs (get_or rest j no_way).kind k (point'.1 j no_way g h))
  where
    has : Neighbor → Bool
    has way = way.kind == k

    long : length rest ≡ length ways - first
    long = ap length is ∙ length-drop first ways

    here : (j : ℕ) → j < r → has (get_or rest j no_way) ≡ true
    here j h =
        let same : get_or rest j no_way ≡ get_or ways (first + j) no_way = ap (λ l. get_or l j no_way) is ∙ get_or-drop first ways j no_way in
        let kinds : (get_or rest j no_way).kind ≡ (get_or ways (first + j) no_way).kind = ap (λ (way : Neighbor). way.kind) same in
        let most : (get_or rest j no_way).kind ≤ k = leb-true _ _ (point'.0 j no_way (omega arith) h) in
        let least : k ≤ (get_or ways (first + j) no_way).kind = ltb-false _ _ (point.1 (first + j) no_way (omega arith) (omega (arith, long, high, low, h))) in
        eq-eqb (get_or rest j no_way).kind k (omega (arith, kinds, most, least))

count_walked : (v k : ℕ) (ways : List Neighbor) → count_by (λ (w : Traversal). w.kind == k) (map (walked v) ways) ≡ count_by (λ (way : Neighbor). way.kind == k) ways
count_walked v k [] = refl
count_walked v k (x ∷ xs) =
    count_cons (λ (w : Traversal). w.kind == k) (walked v x) (map (walked v) xs) ∙ ap (λ n. cond (x.kind == k) 1 0 + n) (count_walked v k xs)
    ∙ sym (count_cons (λ (way : Neighbor). way.kind == k) x xs)

pub all_or_none : (b : Bool) (p : Traversal → Bool) (ws : List Traversal) → All (λ w. p w ≡ b) ws → filter p ws ≡ cond b ws []
all_or_none true p [] all = refl
all_or_none false p [] all = refl
all_or_none true p (w ∷ ws) all =
    ap (λ b. cond b (w ∷ filter p ws) (filter p ws)) (All-head (λ w. p w ≡ true) w ws all) ∙ ap (λ l. w ∷ l) (all_or_none true p ws (All-tail (λ w. p w ≡ true) w ws all))
all_or_none false p (w ∷ ws) all =
    ap (λ b. cond b (w ∷ filter p ws) (filter p ws)) (All-head (λ w. p w ≡ false) w ws all) ∙ all_or_none false p ws (All-tail (λ w. p w ≡ false) w ws all)

differs : (n k : ℕ) → n ≢ k → (n == k) ≡ false
differs n k h = grind (arith, nat_tests)

only_none : (g : ℕ → List Traversal) (k n : ℕ) → n ≤ k → flat_map (λ e. cond (e == k) (g e) []) (below n) ≡ []
only_none g k =
    let G : ℕ → List Traversal = λ e. cond (e == k) (g e) [] in
    let P : ℕ → Type 0 = λ n. n ≤ k → flat_map G (below n) ≡ [] in
    nat_up P (λ _. refl) (λ n before h. flat_map_below G n ∙ ap (λ l. l ++ G n) (before (omega arith)) ∙ ap (λ b. cond b (g n) []) (differs n k (λ q. absurd (omega arith))))

only_one : (g : ℕ → List Traversal) (k n : ℕ) → k < n → flat_map (λ e. cond (e == k) (g e) []) (below n) ≡ g k
only_one g k = nat_up P (λ h. absurd (omega arith)) step
  where
    G : ℕ → List Traversal
    G e = cond (e == k) (g e) []

    P : ℕ → Type 0
    P n = k < n → flat_map G (below n) ≡ g k

    step : (n : ℕ) → P n → P (n + 1)
    step n before h = flat_map_below G n ∙ elim (cases_eq n k) [
      | inl same ↦ ap (λ l. l ++ G n) (only_none g k n (omega arith)) ∙ ap (λ b. cond b (g n) []) (eq-eqb n k same) ∙ ap g same
      | inr other ↦ ap (λ b. flat_map G (below n) ++ cond b (g n) []) (differs n k other) ∙ append-nil (flat_map G (below n)) ∙ before (omega arith)
    ]

-- in walks ordered by type, those of one type
pub of_kind_in : (F : ℕ → List Traversal) → ((e : ℕ) → All (λ (w : Traversal). w.kind ≡ e) (F e)) → (k n : ℕ) → k < n
    → filter (λ (w : Traversal). w.kind == k) (flat_map F (below n)) ≡ F k
of_kind_in F same k n h =
    filter_flat_map (λ (w : Traversal). w.kind == k) F (below n)
    ∙ flat_map_agree (λ e. filter (λ (w : Traversal). w.kind == k) (F e)) (λ e. cond (e == k) (F e) []) n
    (λ e _. all_or_none (e == k) (λ (w : Traversal). w.kind == k) (F e)
    (All-weaker (λ (w : Traversal). w.kind ≡ e) (λ (w : Traversal). (w.kind == k) ≡ (e == k)) (λ w q. ap (λ n. n == k) q) (F e) (same e)))
    ∙ only_one F k n h

-- among the walks from a vertex, those of a type are the walks under it
pub of_kind : (types : List EdgeType) (edges : List EdgeRow) (v k : ℕ) → k < length types
    → filter (λ (w : Traversal). w.kind == k) (walks_from types edges v) ≡ walks_under types edges v k
of_kind types edges v k h = of_kind_in (walks_under types edges v) (under_kind types edges v) k (length types) h

-- there are as many walks under a type as edges that can be walked
under_length : (types : List EdgeType) (edges : List EdgeRow) (v k : ℕ)
    → length (walks_under types edges v k) ≡ length (filter (λ (edge : EdgeRow). is_some (far_end (k, type_at types k) edge v)) edges)
under_length types edges v k = nat_up P (λ _. refl) step (length edges) (omega arith) ∙ ap (λ l. length (filter q l)) (take_all (length edges) edges (omega arith))
  where
    q : EdgeRow → Bool
    q edge = is_some (far_end (k, type_at types k) edge v)

    A : ℕ → List Traversal
    A r = walks_along types v k r (edge_at edges r)

    P : ℕ → Type 0
    P m = m ≤ length edges → length (flat_map A (below m)) ≡ length (filter q (take m edges))

    along : (far : Option ℕ) (r : ℕ) (edge : EdgeRow) → length (map {B = Traversal} (λ far. record { source = v; kind = k; row = r; target = far }) (option_to_list far)) ≡ length (cond (is_some far) (edge ∷ []) [])
    along None r edge = refl
    along (Some far) r edge = refl

    step : (m : ℕ) → P m → P (m + 1)
    step m before h =
        let edge : EdgeRow = edge_at edges m in
        ap length (flat_map_below A m) ∙ length-append (flat_map A (below m)) (A m)
        ∙ ap (λ n. n + length (A m)) (before (omega arith))
        ∙ ap (λ n. length (filter q (take m edges)) + n) (along (far_end (k, type_at types k) edge v) m edge)
        ∙ sym (ap length (filter_more q edges m no_edge (omega arith)) ∙ length-append (filter q (take m edges)) (cond (q edge) (edge ∷ []) []))

-- the number of ways of a type is its degree
pub degree_is : (sight : Sight) (type : EdgeType) (v k r : ℕ) (ways : List Neighbor) → map (walked v) ways ≡ walks_from sight.types sight.edges v
    → slice_get sight.types k ≡ Some type → count_by (λ (way : Neighbor). way.kind == k) ways ≡ r → r ≡ degree sight (k, type) v
degree_is sight type v k r ways are is counted =
    sym counted ∙ sym (count_walked v k ways) ∙ ap (count_by (λ (w : Traversal). w.kind == k)) are
    ∙ sym (length-filter (λ (w : Traversal). w.kind == k) (walks_from sight.types sight.edges v))
    ∙ ap length (of_kind sight.types sight.edges v k (slice_get_within sight.types k type is))
    ∙ under_length sight.types sight.edges v k
    ∙ ap (λ t. length (filter (λ (edge : EdgeRow). is_some (far_end (k, t) edge v)) sight.edges)) (get_or_from_slice_get sight.types k type no_type is)
