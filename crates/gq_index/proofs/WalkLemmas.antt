-- WalkLemmas: the walks that a pass over the types finds, and those of them from one vertex.
use Rattle.std.specs.Prelude.{min}
use Rattle.std.proofs.Common.{inl, inr, ℕ, zero, suc, ◌+◌, ◌-◌, ◌<◌, ◌≤◌, ◌≡◌, ◌≢◌, Bool, true, false, cond, not, ◌⊎◌, List, [], ◌∷◌, ◌++◌, ◌==◌, ◌&&◌, ◌||◌, length, get_or, drop, map, Some, None, refl, ap, sym, ◌∙◌, arith, append-nil, zero-add}
use Rattle.std.specs.List.{filter, flat_map, All}
use Rattle.std.specs.Option.{is_some, option_to_list}
use Rattle.std.proofs.lemmas.List.{get_or-map, get_or-drop, length-drop, length-map}
use Rattle.std.proofs.lemmas.List.Concat.{flat_map-append}
use Rattle.std.proofs.lemmas.List.Elements.{filter-append, All-nil, All-cons, All-append, All-weaker, All-head, All-tail}
use Rattle.std.proofs.lemmas.List.FromFn.{get_or-map-range_with_len, get_or-range_with_len, length-range_with_len}
use Rattle.std.proofs.lemmas.Bool.Decides.{nat_tests}
use Rattle.std.proofs.lemmas.Bool.{cases_eq}
use Rattle.gq_graph.specs.declared.types.EdgeType.{EdgeType}
use Rattle.gq_graph.specs.declared.rows.EdgeRow.{EdgeRow}
use Rattle.gq_graph.specs.Candidates.{far_end, led_to}
use Rattle.gq_graph.specs.Edges.{edge_at, no_edge}
use Rattle.gq_index.specs.declared.walks.Traversal.{Traversal}
use Rattle.gq_index.specs.Places.{below, passing, holds, cut_up, IsPlaced}
use Rattle.gq_index.specs.Sights.{type_at}
use Rattle.gq_index.specs.Walks.{base_of, walks_along, walks_under, walks_from, both_ways, type_walks, all_walks, type_walks_behind, walks_behind, edge_kinds}
use Rattle.gq_index.proofs.PlaceLemmas.{nat_up, below_more, passing_more, passing_zero}

pub filter_flat_map : {X Y : Type 0} (p : Y → Bool) (f : X → List Y) (xs : List X) → filter p (flat_map f xs) ≡ flat_map (λ x. filter p (f x)) xs
filter_flat_map p f [] = refl
filter_flat_map p f (x ∷ xs) = filter-append p (f x) (flat_map f xs) ∙ ap (λ l. filter p (f x) ++ l) (filter_flat_map p f xs)

pub flat_map_filter : {X Y : Type 0} (g : X → List Y) (q : X → Bool) (xs : List X) → flat_map g (filter q xs) ≡ flat_map (λ x. cond (q x) (g x) []) xs
flat_map_filter g q [] = refl
flat_map_filter {X} {Y} g q (x ∷ xs) =
    elim (q x) as (λ b. flat_map g (cond b (x ∷ filter q xs) (filter q xs)) ≡ cond b (g x) [] ++ flat_map (λ y. cond (q y) (g y) []) xs) [
      | true ↦ ap (λ l. g x ++ l) (flat_map_filter g q xs)
      | false ↦ flat_map_filter g q xs
    ]

pub flat_map_below : {Y : Type 0} (h : ℕ → List Y) (n : ℕ) → flat_map h (below (n + 1)) ≡ flat_map h (below n) ++ h n
flat_map_below h n = ap (flat_map h) (below_more n) ∙ flat_map-append h (below n) (n ∷ []) ∙ ap (λ l. flat_map h (below n) ++ l) (append-nil (h n))

pub flat_map_agree : {Y : Type 0} (f g : ℕ → List Y) (n : ℕ) → ((k : ℕ) → k < n → f k ≡ g k) → flat_map f (below n) ≡ flat_map g (below n)
flat_map_agree {Y} f g =
    let P : ℕ → Type 0 = λ n. ((k : ℕ) → k < n → f k ≡ g k) → flat_map f (below n) ≡ flat_map g (below n)
    in nat_up P (λ _. refl) at
  where
    at : (n : ℕ) → (((k : ℕ) → k < n → f k ≡ g k) → flat_map f (below n) ≡ flat_map g (below n)) → ((k : ℕ) → k < n + 1 → f k ≡ g k) → flat_map f (below (n + 1)) ≡ flat_map g (below (n + 1))
    at n before same = flat_map_below f n ∙ ap (λ l. l ++ f n) (before (λ k h. same k (omega arith))) ∙ ap (λ l. flat_map g (below n) ++ l) (same n (omega arith)) ∙ sym (flat_map_below g n)

own_walks : (directed : Bool) (e r v : ℕ) (edge : EdgeRow)
    → filter (λ (w : Traversal). w.source == v) (cond (not directed && not (edge.from == edge.to))
    ((record { source = edge.from; kind = e; row = r; target = edge.to }) ∷ (record { source = edge.to; kind = e; row = r; target = edge.from }) ∷ [])
    ((record { source = edge.from; kind = e; row = r; target = edge.to }) ∷ []))
    ≡ map (λ far. record { source = v; kind = e; row = r; target = far })
    (option_to_list (cond (edge.from == v) (Some edge.to) (cond directed None (cond (edge.to == v) (Some edge.from) None))))
own_walks directed e r v edge = grind (arith, nat_tests)

back_walk : (e r v : ℕ) (edge : EdgeRow) → filter (λ (w : Traversal). w.source == v) ((record { source = edge.to; kind = e; row = r; target = edge.from }) ∷ [])
    ≡ map (λ far. record { source = v; kind = e; row = r; target = far }) (option_to_list (cond (edge.to == v) (Some edge.from) None))
back_walk e r v edge = grind (arith, nat_tests)

-- one edge under one type
edge_walks : (t : EdgeType) (e r v : ℕ) (edge : EdgeRow)
    → filter (λ (w : Traversal). w.source == v) (both_ways t e r edge)
    ≡ map (λ far. record { source = v; kind = e; row = r; target = far }) (option_to_list (far_end (e, t) edge v))
edge_walks t e r v edge =
    let back : Traversal = record { source = edge.to; kind = e; row = r; target = edge.from } in
    let out : Traversal = record { source = edge.from; kind = e; row = r; target = edge.to } in
    let own : List Traversal = cond (not t.directed && not (edge.from == edge.to)) (out ∷ back ∷ []) (out ∷ []) in
    elim (edge.kind == base_of t e) as (λ b. filter (λ (w : Traversal). w.source == v) (cond (not b) [] (cond (is_some t.forward) (back ∷ []) own))
    ≡ map (λ far. record { source = v; kind = e; row = r; target = far }) (option_to_list (cond b (led_to t edge v) None))) [
      | false ↦ refl
      | true ↦
          elim (is_some t.forward) as (λ b. filter (λ (w : Traversal). w.source == v) (cond b (back ∷ []) own)
          ≡ map (λ far. record { source = v; kind = e; row = r; target = far })
          (option_to_list (cond b (cond (edge.to == v) (Some edge.from) None)
          (cond (edge.from == v) (Some edge.to) (cond t.directed None (cond (edge.to == v) (Some edge.from) None)))))) [
            | true ↦ back_walk e r v edge
            | false ↦ own_walks t.directed e r v edge
          ]
    ]

pub type_walks_from : (types : List EdgeType) (edges : List EdgeRow) (v e : ℕ)
    → filter (λ (w : Traversal). w.source == v) (type_walks (type_at types e) e edges) ≡ walks_under types edges v e
unfolding type_walks
type_walks_from types edges v e =
    let t = type_at types e in
    let ends : ℕ → List Traversal = λ r. both_ways t e r (edge_at edges r) in
    filter_flat_map (λ (w : Traversal). w.source == v) ends (below (length edges))
    ∙ flat_map_agree (λ r. filter (λ (w : Traversal). w.source == v) (ends r)) (λ r. walks_along types v e r (edge_at edges r)) (length edges)
    (λ r _. edge_walks t e r v (edge_at edges r))

-- the walks from a vertex under a type along the edges after the first ones
abbrev pub under_behind : List EdgeType → List EdgeRow → ℕ → ℕ → ℕ → List Traversal
under_behind types edges first v e = flat_map (λ r. walks_along types v e (first + r) (edge_at edges (first + r))) (below (length edges - first))

type_behind_from : (types : List EdgeType) (edges : List EdgeRow) (first v e : ℕ)
    → filter (λ (w : Traversal). w.source == v) (type_walks_behind (type_at types e) e first edges) ≡ under_behind types edges first v e
unfolding type_walks_behind
type_behind_from types edges first v e =
    let t = type_at types e in
    let ends : ℕ → List Traversal = λ r. both_ways t e (first + r) (edge_at edges (first + r)) in
    let n : ℕ = length edges - first in
    filter_flat_map (λ (w : Traversal). w.source == v) ends (below n)
    ∙ flat_map_agree (λ r. filter (λ (w : Traversal). w.source == v) (ends r)) (λ r. walks_along types v e (first + r) (edge_at edges (first + r))) n
    (λ r _. edge_walks t e (first + r) v (edge_at edges (first + r)))

pub all_behind_from : (types : List EdgeType) (edges : List EdgeRow) (first v : ℕ)
    → filter (λ (w : Traversal). w.source == v) (walks_behind types first edges) ≡ flat_map (under_behind types edges first v) (below (length types))
unfolding walks_behind
all_behind_from types edges first v =
    filter_flat_map (λ (w : Traversal). w.source == v) (λ e. type_walks_behind (type_at types e) e first edges) (below (length types))
    ∙ flat_map_agree (λ e. filter (λ (w : Traversal). w.source == v) (type_walks_behind (type_at types e) e first edges)) (under_behind types edges first v) (length types) (λ e _. type_behind_from types edges first v e)

pub all_walks_from : (types : List EdgeType) (edges : List EdgeRow) (v : ℕ)
    → filter (λ (w : Traversal). w.source == v) (all_walks types edges) ≡ walks_from types edges v
unfolding all_walks
all_walks_from types edges v =
    filter_flat_map (λ (w : Traversal). w.source == v) (λ e. type_walks (type_at types e) e edges) (below (length types))
    ∙ flat_map_agree (λ e. filter (λ (w : Traversal). w.source == v) (type_walks (type_at types e) e edges)) (walks_under types edges v) (length types) (λ e _. type_walks_from types edges v e)

pub map_cond : {X Y : Type 0} (f : X → Y) (b : Bool) (x : X) → map f (cond b (x ∷ []) []) ≡ cond b (f x ∷ []) []
map_cond f true x = refl
map_cond f false x = refl

pub passing_below : (p : ℕ → Bool) (n : ℕ) → All (λ r. r < n) (passing p n)
passing_below p =
    let P : ℕ → Type 0 = λ n. All (λ r. r < n) (passing p n)
    in nat_up P (rw (passing_zero p) (All-nil (λ r. r < 0)))
    (λ n before. rw (passing_more p n) (All-append (λ r. r < n + 1) (passing p n) (cond (p n) (n ∷ []) [])
    (All-weaker (λ r. r < n) (λ r. r < n + 1) (λ r h. omega arith) (passing p n) before) (one n (p n))))
  where
    one : (n : ℕ) (b : Bool) → All (λ r. r < n + 1) (cond b (n ∷ []) [])
    one n true = All-cons (λ r. r < n + 1) n [] (omega arith) (All-nil (λ r. r < n + 1))
    one n false = All-nil (λ r. r < n + 1)

pub lt_or_le : (a b : ℕ) → (a < b) ⊎ (b ≤ a)
lt_or_le a zero = inr (omega arith)
lt_or_le zero (suc b) = inl (omega arith)
lt_or_le (suc a) (suc b) = elim (lt_or_le a b) [ inl h ↦ inl (omega arith) | inr h ↦ inr (omega arith) ]

-- the part of a type consists of its edges
kind_part : (edges : List EdgeRow) (starts order : List ℕ) (kinds b : ℕ) → IsPlaced (edge_kinds kinds edges) (kinds + 1) starts order
    → get_or (cut_up starts order) (min kinds b) [] ≡ passing (holds (edge_kinds kinds edges) (min kinds b)) (length edges)
kind_part edges starts order kinds b placed =
    let keys : List ℕ = edge_kinds kinds edges in
    let k : ℕ = min kinds b in
    ap (λ l. get_or l k []) placed.groups
    ∙ get_or-map-range_with_len (λ k. passing (holds keys k) (length keys)) 0 (kinds + 1) k k [] (min_low kinds b) (zero-add k)
    ∙ ap (passing (holds keys k)) (length-map edges (λ (edge : EdgeRow). min edge.kind kinds))
  where
    min_low : (a b : ℕ) → min a b < a + 1
    min_low a b = grind (arith, nat_tests)

pub kind_part_below : (edges : List EdgeRow) (starts order part : List ℕ) (kinds b : ℕ) → IsPlaced (edge_kinds kinds edges) (kinds + 1) starts order
    → part ≡ get_or (cut_up starts order) (min kinds b) [] → All (λ r. r < length edges) part
kind_part_below edges starts order part kinds b placed e =
    rw (e ∙ kind_part edges starts order kinds b placed) (passing_below (holds (edge_kinds kinds edges) (min kinds b)) (length edges))

pub both_none : (t : EdgeType) (e r : ℕ) (edge : EdgeRow) → (edge.kind == base_of t e) ≡ false → both_ways t e r edge ≡ []
both_none t e r edge other = rw (other, both_ways) refl

-- an edge of the type, walked backwards, forwards, or both ways
pub both_back : (t : EdgeType) (e r : ℕ) (edge : EdgeRow) → (edge.kind == base_of t e) ≡ true → is_some t.forward ≡ true
    → both_ways t e r edge ≡ (record { source = edge.to; kind = e; row = r; target = edge.from }) ∷ []
both_back t e r edge has back = rw (has, back, both_ways) refl

pub both_out : (t : EdgeType) (e r : ℕ) (edge : EdgeRow) → (edge.kind == base_of t e) ≡ true → is_some t.forward ≡ false
    → (t.directed || (edge.from == edge.to)) ≡ true → both_ways t e r edge ≡ (record { source = edge.from; kind = e; row = r; target = edge.to }) ∷ []
both_out t e r edge has own one = rw (has, own, alone t.directed (edge.from == edge.to) one, both_ways) refl
  where
    alone : (a b : Bool) → (a || b) ≡ true → (not a && not b) ≡ false
    alone true b h = refl
    alone false true h = refl
    alone false false h = sym h

pub both_two : (t : EdgeType) (e r : ℕ) (edge : EdgeRow) → (edge.kind == base_of t e) ≡ true → is_some t.forward ≡ false
    → (t.directed || (edge.from == edge.to)) ≡ false
    → both_ways t e r edge ≡ (record { source = edge.from; kind = e; row = r; target = edge.to }) ∷ (record { source = edge.to; kind = e; row = r; target = edge.from }) ∷ []
both_two t e r edge has own two = rw (has, own, twice t.directed (edge.from == edge.to) two, both_ways) refl
  where
    twice : (a b : Bool) → (a || b) ≡ false → (not a && not b) ≡ true
    twice true b h = sym h
    twice false true h = sym h
    twice false false h = refl

cond_none : (b : Bool) → cond {A = List Traversal} b [] [] ≡ []
cond_none true = refl
cond_none false = refl

-- an edge outside the part of a type has no walks under it
kept_kind : (t : EdgeType) (e r : ℕ) (edge : EdgeRow) (kinds : ℕ)
    → cond (min edge.kind kinds == min kinds (base_of t e)) (both_ways t e r edge) [] ≡ both_ways t e r edge
kept_kind t e r edge kinds = elim (cases_eq edge.kind (base_of t e)) [
  | inl same ↦ ap (λ b. cond b (both_ways t e r edge) []) (here edge.kind (base_of t e) kinds same)
  | inr other ↦ rw (both_none t e r edge (differs edge.kind (base_of t e) other)) (cond_none (min edge.kind kinds == min kinds (base_of t e)))
]
  where
    here : (a b n : ℕ) → a ≡ b → (min a n == min n b) ≡ true
    here a b n e = grind (arith, nat_tests)

    differs : (a b : ℕ) → a ≢ b → (a == b) ≡ false
    differs a b ne = grind (arith, nat_tests)

-- the walks along the part of a type are all its walks
part_walks : (edges tail : List EdgeRow) (t : EdgeType) (e first kinds : ℕ) → tail ≡ drop first edges
    → flat_map (λ r. both_ways t e (first + r) (edge_at edges (first + r))) (passing (holds (edge_kinds kinds tail) (min kinds (base_of t e))) (length tail)) ≡ type_walks_behind t e first edges
unfolding passing type_walks_behind
part_walks edges tail t e first kinds is =
    let k : ℕ = min kinds (base_of t e) in
    let has : ℕ → Bool = holds (edge_kinds kinds tail) k in
    let ends : ℕ → List Traversal = λ r. both_ways t e (first + r) (edge_at edges (first + r)) in
    let kind : EdgeRow → ℕ = λ edge. min edge.kind kinds in
    flat_map_filter ends has (below (length tail))
    ∙ flat_map_agree (λ r. cond (has r) (ends r) []) ends (length tail)
    (λ r h. ap (λ x. cond (x == k) (ends r) []) (get_or-map kind tail r no_edge 0 h ∙ ap kind (ap (λ l. edge_at l r) is ∙ get_or-drop first edges r no_edge))
    ∙ kept_kind t e (first + r) (edge_at edges (first + r)) kinds)
    ∙ ap (λ n. flat_map ends (below n)) (ap length is ∙ length-drop first edges)

pub type_more : (types : List EdgeType) (edges tail : List EdgeRow) (starts order part : List ℕ) (t : EdgeType) (e first : ℕ)
    → IsPlaced (edge_kinds (length types) tail) (length types + 1) starts order → tail ≡ drop first edges → t ≡ type_at types e
    → part ≡ get_or (cut_up starts order) (min (length types) (base_of t e)) []
    → flat_map (λ e. type_walks_behind (type_at types e) e first edges) (below e) ++ flat_map (λ r. both_ways t e (first + r) (edge_at edges (first + r))) part
    ≡ flat_map (λ e. type_walks_behind (type_at types e) e first edges) (below (e + 1))
type_more types edges tail starts order part t e first placed cut is parted =
    let all : List Traversal = flat_map (λ e. type_walks_behind (type_at types e) e first edges) (below e) in
    ap (λ l. all ++ flat_map (λ r. both_ways t e (first + r) (edge_at edges (first + r))) l) (parted ∙ kind_part tail starts order (length types) (base_of t e) placed)
    ∙ ap (λ l. all ++ l) (part_walks edges tail t e first (length types) cut)
    ∙ ap (λ u. all ++ type_walks_behind u e first edges) is
    ∙ sym (flat_map_below (λ e. type_walks_behind (type_at types e) e first edges) e)

pub type_behind_is : (t : EdgeType) (e first : ℕ) (edges : List EdgeRow)
    → flat_map (λ r. both_ways t e (first + r) (edge_at edges (first + r))) (below (length edges - first)) ≡ type_walks_behind t e first edges
unfolding type_walks_behind
type_behind_is t e first edges = refl

pub flat_map_to : (types : List EdgeType) (edges : List EdgeRow) (first n : ℕ) → n ≡ length types
    → flat_map (λ e. type_walks_behind (type_at types e) e first edges) (below n) ≡ walks_behind types first edges
unfolding walks_behind
flat_map_to types edges first n e = ap (λ n. flat_map (λ e. type_walks_behind (type_at types e) e first edges) (below n)) e

pub All-flat_map : {X Y : Type 0} (P : Y → Type 0) (Q : X → Type 0) (f : X → List Y) → ((x : X) → Q x → All P (f x)) → (xs : List X) → All Q xs → All P (flat_map f xs)
All-flat_map P Q f each [] all = All-nil P
All-flat_map P Q f each (x ∷ xs) all = All-append P (f x) (flat_map f xs) (each x (All-head Q x xs all)) (All-flat_map P Q f each xs (All-tail Q x xs all))

pub all_below : (n : ℕ) → All (λ k. k < n) (below n)
all_below n = λ k d h. let low : k < n = omega (arith, length-range_with_len 0 n) in rw (get_or-range_with_len 0 n k d low, zero-add k) low
