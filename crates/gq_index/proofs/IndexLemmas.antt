-- IndexLemmas: an index and the lists that represent it, and how walks along the edges after the first ones extend it.
use Rattle.std.proofs.Common.{inl, inr, ℕ, ◌+◌, ◌-◌, ◌<◌, ◌≤◌, ◌≡◌, Bool, true, false, cond, not, List, [], ◌∷◌, ◌++◌, ◌==◌, ◌&&◌, length, get_or, take, map, refl, ap, ap₂, sym, ◌∙◌, subst, arith, zero-add, append-nil}
use Rattle.std.specs.List.{filter, flat_map, All}
use Rattle.std.specs.Option.{is_some, option_to_list}
use Rattle.std.proofs.lemmas.List.{append_assoc, map-append, get_or_past, get_or-take, length-take-le}
use Rattle.std.proofs.lemmas.List.Elements.{filter-append, All-nil, All-cons}
use Rattle.std.proofs.lemmas.List.FromFn.{get_or-map-range_with_len, length-map-range_with_len}
use Rattle.gq_graph.specs.declared.types.EdgeType.{EdgeType}
use Rattle.gq_graph.specs.declared.rows.EdgeRow.{EdgeRow}
use Rattle.gq_graph.specs.Candidates.{far_end}
use Rattle.gq_graph.specs.Edges.{edge_at, no_edge}
use Rattle.gq_index.specs.declared.walks.Traversal.{Traversal}
use Rattle.gq_index.specs.declared.walks.Neighbor.{Neighbor}
use Rattle.gq_index.specs.Kept.{EndsWithin, AllWithin}
use Rattle.gq_index.specs.Places.{below}
use Rattle.gq_index.specs.Sights.{type_at}
use Rattle.gq_index.specs.Walks.{walked, base_of, both_ways, walks_along, walks_under, walks_from, type_walks, all_walks, walks_behind, ways_at, laid_out, by_type, taken_from, AreListed}
use Rattle.gq_index.proofs.PlaceLemmas.{nat_up, map_below_agree}
use Rattle.gq_index.proofs.WalkLemmas.{flat_map_below, flat_map_agree, under_behind, all_walks_from, all_behind_from, lt_or_le, All-flat_map, all_below}
use Rattle.gq_index.proofs.DegreeLemmas.{one_kind, of_kind, of_kind_in}

-- ---- the walks along the first edges, and along those after

flat_map_split : {Y : Type 0} (h : ℕ → List Y) (a b : ℕ) → flat_map h (below (a + b)) ≡ flat_map h (below a) ++ flat_map (λ r. h (a + r)) (below b)
flat_map_split {Y} h a =
    let P : ℕ → Type 0 = λ b. flat_map h (below (a + b)) ≡ flat_map h (below a) ++ flat_map (λ r. h (a + r)) (below b) in
    let none : a + 0 ≡ a = omega arith in
    nat_up P (ap (λ n. flat_map h (below n)) none ∙ sym (append-nil (flat_map h (below a)))) step
  where
    step : (b : ℕ) → flat_map h (below (a + b)) ≡ flat_map h (below a) ++ flat_map (λ r. h (a + r)) (below b)
        → flat_map h (below (a + (b + 1))) ≡ flat_map h (below a) ++ flat_map (λ r. h (a + r)) (below (b + 1))
    step b before =
        let next : a + (b + 1) ≡ a + b + 1 = omega arith in
        ap (λ n. flat_map h (below n)) next ∙ flat_map_below h (a + b) ∙ ap (λ l. l ++ h (a + b)) before
        ∙ append_assoc (flat_map h (below a)) (flat_map (λ r. h (a + r)) (below b)) (h (a + b))
        ∙ ap (λ l. flat_map h (below a) ++ l) (sym (flat_map_below (λ r. h (a + r)) b))

under_split : (types : List EdgeType) (edges : List EdgeRow) (first v e : ℕ) → first ≤ length edges
    → walks_under types edges v e ≡ walks_under types (take first edges) v e ++ under_behind types edges first v e
under_split types edges first v e h =
    let along : ℕ → List Traversal = λ r. walks_along types v e r (edge_at edges r) in
    let cut : length (take first edges) ≡ first = length-take-le first edges h in
    let all : length edges ≡ first + (length edges - first) = omega arith in
    ap (λ n. flat_map along (below n)) all ∙ flat_map_split along first (length edges - first)
    ∙ ap (λ l. l ++ under_behind types edges first v e)
    (flat_map_agree along (λ r. walks_along types v e r (edge_at (take first edges) r)) first
    (λ r low. ap (walks_along types v e r) (sym (get_or-take first edges r no_edge low)))
    ∙ ap (λ n. flat_map (λ r. walks_along types v e r (edge_at (take first edges) r)) (below n)) (sym cut))

behind_kind : (types : List EdgeType) (edges : List EdgeRow) (first v e : ℕ) → All (λ (w : Traversal). w.kind ≡ e) (under_behind types edges first v e)
behind_kind types edges first v e =
    All-flat_map (λ (w : Traversal). w.kind ≡ e) (λ r. r < length edges - first) (λ r. walks_along types v e (first + r) (edge_at edges (first + r)))
    (λ r _. one_kind v e (first + r) (option_to_list (far_end (e, type_at types e) (edge_at edges (first + r)) v))) (below (length edges - first)) (all_below (length edges - first))

-- the walks from a vertex, by type
by_type_from : (types : List EdgeType) (edges : List EdgeRow) (v : ℕ) → by_type (length types) (taken_from v (all_walks types edges)) ≡ walks_from types edges v
unfolding by_type
by_type_from types edges v =
    flat_map_agree (λ e. filter (λ (walk : Traversal). walk.kind == e) (taken_from v (all_walks types edges))) (walks_under types edges v) (length types)
    (λ e h. ap (filter (λ (walk : Traversal). walk.kind == e)) (all_walks_from types edges v) ∙ of_kind types edges v e h)

-- with those along the edges after the first ones they are those along all edges
pub grown_from : (types : List EdgeType) (edges : List EdgeRow) (first v : ℕ) → first ≤ length edges
    → by_type (length types) (taken_from v (all_walks types (take first edges) ++ walks_behind types first edges)) ≡ walks_from types edges v
unfolding by_type
grown_from types edges first v low =
    flat_map_agree (λ e. filter (has e) (taken_from v (old ++ new))) (walks_under types edges v) (length types)
    (λ e h. ap (filter (has e)) (filter-append (λ (walk : Traversal). walk.source == v) old new)
    ∙ filter-append (has e) (taken_from v old) (taken_from v new)
    ∙ ap₂ (λ (xs ys : List Traversal). xs ++ ys)
    (ap (filter (has e)) (all_walks_from types (take first edges) v) ∙ of_kind types (take first edges) v e h)
    (ap (filter (has e)) (all_behind_from types edges first v) ∙ of_kind_in (under_behind types edges first v) (behind_kind types edges first v) e (length types) h)
    ∙ sym (under_split types edges first v e low))
  where
    old : List Traversal
    old = all_walks types (take first edges)

    new : List Traversal
    new = walks_behind types first edges

    has : ℕ → Traversal → Bool
    has e walk = walk.kind == e

pub map_flat_map : {X Y Z : Type 0} (f : Y → Z) (g : X → List Y) (xs : List X) → map f (flat_map g xs) ≡ flat_map (λ x. map f (g x)) xs
map_flat_map f g [] = refl
map_flat_map f g (x ∷ xs) = map-append f (g x) (flat_map g xs) ∙ ap (λ l. map f (g x) ++ l) (map_flat_map f g xs)

-- ---- lists and indexes

pub length_laid : (lists : List (List Neighbor)) → length (laid_out lists) ≡ length lists
length_laid lists = length-map-range_with_len (λ v. map (walked v) (ways_at lists v)) 0 (length lists)

-- the list of a vertex, as walks from it
pub laid_at : (lists : List (List Neighbor)) (v : ℕ) → map (walked v) (ways_at lists v) ≡ get_or (laid_out lists) v []
laid_at lists v = elim (lt_or_le v (length lists)) [
  | inl h ↦ sym (get_or-map-range_with_len (λ v. map (walked v) (ways_at lists v)) 0 (length lists) v v [] h (zero-add v))
  | inr h ↦ ap (map (walked v)) (get_or_past lists v [] h) ∙ sym (get_or_past (laid_out lists) v [] (omega (arith, length_laid lists)))
]

-- the lists of an index hold all walks along its edges
pub listed_first : (types : List EdgeType) (edges : List EdgeRow) (lists : List (List Neighbor)) (index : List (List Traversal)) → laid_out lists ≡ index
    → index ≡ map (walks_from types edges) (below (length index)) → AreListed (length index) (length types) lists (all_walks types edges)
listed_first types edges lists index laid are = record {
  long = sym (length_laid lists) ∙ ap length laid;
  own = λ v h. laid_at lists v ∙ ap (λ l. get_or l v []) (laid ∙ are)
      ∙ get_or-map-range_with_len (walks_from types edges) 0 (length index) v v [] h (zero-add v) ∙ sym (by_type_from types edges v);
}

-- and lists that also hold the later ones are an index of all edges
pub listed_last : (types : List EdgeType) (edges : List EdgeRow) (first n : ℕ) (lists : List (List Neighbor)) → first ≤ length edges
    → AreListed n (length types) lists (all_walks types (take first edges) ++ walks_behind types first edges)
    → laid_out lists ≡ map (walks_from types edges) (below n)
listed_last types edges first n lists low listed =
    ap (λ m. map (λ v. map (walked v) (ways_at lists v)) (below m)) listed.long
    ∙ map_below_agree (λ v. map (walked v) (ways_at lists v)) (walks_from types edges) n (λ v h. listed.own v h ∙ grown_from types edges first v low)

-- ---- where walks are taken from

both_within : (t : EdgeType) (e r n : ℕ) (edge : EdgeRow) → EndsWithin n edge → All (λ (w : Traversal). w.source < n) (both_ways t e r edge)
both_within t e r n edge within =
    chosen (not (edge.kind == base_of t e)) [] (cond (is_some t.forward) (back ∷ []) own) (All-nil P)
    (chosen (is_some t.forward) (back ∷ []) own (All-cons P back [] within.to (All-nil P))
    (chosen (not t.directed && not (edge.from == edge.to)) (out ∷ back ∷ []) (out ∷ [])
    (All-cons P out (back ∷ []) within.from (All-cons P back [] within.to (All-nil P))) (All-cons P out [] within.from (All-nil P))))
  where
    P : Traversal → Type 0
    P w = w.source < n

    out : Traversal
    out = record { source = edge.from; kind = e; row = r; target = edge.to }

    back : Traversal
    back = record { source = edge.to; kind = e; row = r; target = edge.from }

    own : List Traversal
    own = cond (not t.directed && not (edge.from == edge.to)) (out ∷ back ∷ []) (out ∷ [])

    chosen : (b : Bool) (xs ys : List Traversal) → All P xs → All P ys → All P (cond b xs ys)
    chosen true xs ys first second = first
    chosen false xs ys first second = second

pub sources_within : (types : List EdgeType) (edges : List EdgeRow) (first n : ℕ) → first ≤ length edges → AllWithin n first edges
    → All (λ (w : Traversal). w.source < n) (all_walks types (take first edges))
unfolding all_walks type_walks
sources_within types edges first n low within =
    All-flat_map (λ (w : Traversal). w.source < n) (λ e. e < length types) (λ e. type_walks (type_at types e) e (take first edges))
    (λ e _. All-flat_map (λ (w : Traversal). w.source < n) (λ r. r < length (take first edges)) (λ r. both_ways (type_at types e) e r (edge_at (take first edges) r))
    (λ r h. let here : r < first = omega (arith, h, length-take-le first edges low) in
    both_within (type_at types e) e r n (edge_at (take first edges) r) (subst (EndsWithin n) (sym (get_or-take first edges r no_edge here)) (within r here)))
    (below (length (take first edges))) (all_below (length (take first edges))))
    (below (length types)) (all_below (length types))
