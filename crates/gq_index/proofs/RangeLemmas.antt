-- RangeLemmas: walks whose sources are counted from a range's first vertex, and the lists of ranges one after the other.
use Rattle.std.proofs.Common.{inl, inr, ℕ, ◌+◌, ◌-◌, ◌<◌, ◌≤◌, ◌≡◌, true, false, cond, List, [], ◌∷◌, ◌++◌, ◌==◌, length, take, map, replicate, refl, ap, ap₂, sym, ◌∙◌, subst, arith, le-leb, eq-eqb, length-append}
use Rattle.std.specs.Prelude.{nat_le}
use Rattle.std.specs.List.{filter, All}
use Rattle.std.proofs.lemmas.List.{map-append, get_or_append_left, get_or-append_right, get_or-replicate, length-replicate}
use Rattle.std.proofs.lemmas.Bool.Decides.{nat_tests}
use Rattle.std.proofs.lemmas.Bool.{cases_eq}
use Rattle.gq_graph.specs.declared.types.EdgeType.{EdgeType}
use Rattle.gq_graph.specs.declared.rows.EdgeRow.{EdgeRow}
use Rattle.gq_index.specs.declared.ranges.RangeLists.{RangeLists}
use Rattle.gq_index.specs.declared.walks.Traversal.{Traversal}
use Rattle.gq_index.specs.declared.walks.Neighbor.{Neighbor}
use Rattle.gq_index.specs.Lists.{lists_of}
use Rattle.gq_index.specs.Places.{below}
use Rattle.gq_index.specs.Ranges.{counted_from, lowered, AreRanged, HoldWalks}
use Rattle.gq_index.specs.Walks.{no_walk, walked, walks_from, all_walks, walks_behind, ways_at, laid_out, by_type, taken_from, AreListed}
use Rattle.gq_index.proofs.PlaceLemmas.{map_below_agree}
use Rattle.gq_index.proofs.WalkLemmas.{flat_map_agree, lt_or_le}
use Rattle.gq_index.proofs.ListLemmas.{by_type_none, differs, dropped_push, kept_push}
use Rattle.gq_index.proofs.IndexLemmas.{grown_from, map_flat_map, sources_within}

not_le : (a n : ℕ) → n < a → nat_le a n ≡ false
not_le a n h = grind (arith, nat_tests)

abbrev within : ℕ → List Traversal → List Traversal
within a walks = filter (λ (walk : Traversal). nat_le a walk.source) walks

-- a walk, from another source
abbrev from_source : ℕ → Traversal → Traversal
from_source s w = record { source = s; kind = w.kind; row = w.row; target = w.target }

-- ---- one more walk

pub lowered_in : (a : ℕ) (walks : List Traversal) (w : Traversal) → a ≤ w.source → lowered a (walks ++ w ∷ []) ≡ lowered a walks ++ counted_from a w ∷ []
unfolding lowered
lowered_in a walks w h =
    ap (map (counted_from a)) (kept_push (λ (walk : Traversal). nat_le a walk.source) walks w (le-leb a w.source h))
    ∙ map-append (counted_from a) (within a walks) (w ∷ [])

pub lowered_out : (a : ℕ) (walks : List Traversal) (w : Traversal) → w.source < a → lowered a (walks ++ w ∷ []) ≡ lowered a walks
unfolding lowered
lowered_out a walks w h = ap (map (counted_from a)) (dropped_push (λ (walk : Traversal). nat_le a walk.source) walks w (not_le a w.source h))

-- ---- the walks from one vertex

lowered_none : (a : ℕ) → lowered a [] ≡ []
unfolding lowered
lowered_none a = refl

lowered_from : (a v : ℕ) (walks : List Traversal) → map (from_source (a + v)) (taken_from v (lowered a walks)) ≡ taken_from (a + v) walks
unfolding lowered
lowered_from a v [] = refl
lowered_from a v (w ∷ walks) =
    let F : Traversal → Traversal = from_source (a + v) in
    let rest : List Traversal = within a walks in
    let T : List Traversal = taken_from v (map (counted_from a) rest) in
    let R : List Traversal = taken_from (a + v) walks in
    elim (lt_or_le w.source a) [
      | inl out ↦
          ap (λ b. map F (taken_from v (map (counted_from a) (cond b (w ∷ rest) rest)))) (not_le a w.source out) ∙ lowered_from a v walks
          ∙ sym (ap (λ b. cond b (w ∷ R) R) (differs w.source (a + v) (λ e. absurd (omega (arith, e)))))
      | inr high ↦
          ap (λ b. map F (taken_from v (map (counted_from a) (cond b (w ∷ rest) rest)))) (le-leb a w.source high)
          ∙ elim (cases_eq w.source (a + v)) [
            | inl same ↦
                ap (λ b. map F (cond b (counted_from a w ∷ T) T)) (eq-eqb (w.source - a) v (omega (arith, same)))
                ∙ ap₂ (λ (x : Traversal) (xs : List Traversal). x ∷ xs) (ap (λ s. from_source s w) (sym same)) (lowered_from a v walks)
                ∙ sym (ap (λ b. cond b (w ∷ R) R) (eq-eqb w.source (a + v) same))
            | inr other ↦
                ap (λ b. map F (cond b (counted_from a w ∷ T) T)) (differs (w.source - a) v (λ e. other (omega (arith, e, high)))) ∙ lowered_from a v walks
                ∙ sym (ap (λ b. cond b (w ∷ R) R) (differs w.source (a + v) other))
          ]
    ]

-- counted from vertex 0, walks are as they were
pub lowered_all : (walks : List Traversal) → lowered 0 walks ≡ walks
unfolding lowered
lowered_all [] = refl
lowered_all (w ∷ walks) =
    let same : w.source - 0 ≡ w.source = omega arith in
    ap (λ b. map (counted_from 0) (cond b (w ∷ within 0 walks) (within 0 walks))) (le-leb 0 w.source (omega arith))
    ∙ ap₂ (λ (x : Traversal) (xs : List Traversal). x ∷ xs) (ap (λ s. from_source s w) same) (lowered_all walks)

-- ---- walks by type, from another source

sourced_kind : (s e : ℕ) (walks : List Traversal)
    → map (from_source s) (filter (λ (w : Traversal). w.kind == e) walks) ≡ filter (λ (w : Traversal). w.kind == e) (map (from_source s) walks)
sourced_kind s e [] = refl
sourced_kind s e (w ∷ walks) =
    let P : Traversal → _ = λ (w : Traversal). w.kind == e in
    let F : Traversal → Traversal = from_source s in
    elim (w.kind == e) as (λ b. map F (cond b (w ∷ filter P walks) (filter P walks)) ≡ cond b (F w ∷ filter P (map F walks)) (filter P (map F walks))) [
      | true ↦ ap (λ l. F w ∷ l) (sourced_kind s e walks)
      | false ↦ sourced_kind s e walks
    ]

sourced_by_type : (s count : ℕ) (walks : List Traversal) → map (from_source s) (by_type count walks) ≡ by_type count (map (from_source s) walks)
unfolding by_type
sourced_by_type s count walks =
    map_flat_map (from_source s) (λ e. filter (λ (w : Traversal). w.kind == e) walks) (below count)
    ∙ flat_map_agree (λ e. map (from_source s) (filter (λ (w : Traversal). w.kind == e) walks)) (λ e. filter (λ (w : Traversal). w.kind == e) (map (from_source s) walks)) count
    (λ e _. sourced_kind s e walks)

sourced_ways : (s v : ℕ) (list : List Neighbor) → map (from_source s) (map (walked v) list) ≡ map (walked s) list
sourced_ways s v [] = refl
sourced_ways s v (way ∷ list) = ap (λ l. walked s way ∷ l) (sourced_ways s v list)

-- ---- the lists of a range

none_below : (walks : List Traversal) → All (λ (w : Traversal). w.source < 0) walks → walks ≡ []
none_below [] all = refl
none_below (w ∷ walks) all = let low : w.source < 0 = all 0 no_walk (omega arith) in absurd (omega arith)

-- at first they are empty
pub ranged_first : (types : List EdgeType) (edges : List EdgeRow) (a m : ℕ) (range : RangeLists) → range.first ≡ a → lists_of range.lists ≡ replicate m []
    → AreRanged a m (length types) range (all_walks types (take 0 edges))
ranged_first types edges a m range is empty = record {
  first_is = is;
  lists = record {
    long = ap length empty ∙ length-replicate {A = List Neighbor} m [];
    own = λ v h. ap (λ l. map (walked v) (ways_at l v)) empty ∙ ap (map (walked v)) (get_or-replicate m v [] [] h)
        ∙ sym (ap (λ l. by_type (length types) (taken_from v (lowered a l))) none ∙ ap (λ l. by_type (length types) (taken_from v l)) (lowered_none a) ∙ by_type_none (length types));
  };
}
  where
    none : all_walks types (take 0 edges) ≡ []
    none = none_below (all_walks types (take 0 edges)) (sources_within types edges 0 0 (omega arith) (λ r h. absurd (omega arith)))

-- at last they hold the walks along all edges
pub ranged_last : (types : List EdgeType) (edges : List EdgeRow) (a n : ℕ) (range : RangeLists)
    → AreRanged a n (length types) range (all_walks types (take 0 edges) ++ walks_behind types 0 edges) → HoldWalks types edges range.first (lists_of range.lists)
ranged_last types edges a n range are = subst (λ (f : ℕ). HoldWalks types edges f (lists_of range.lists)) (sym are.first_is) at
  where
    walks : List Traversal
    walks = all_walks types (take 0 edges) ++ walks_behind types 0 edges

    at : HoldWalks types edges a (lists_of range.lists)
    at v h =
        sym (sourced_ways (a + v) v (ways_at (lists_of range.lists) v))
        ∙ ap (map (from_source (a + v))) (are.lists.own v (omega (arith, h, are.lists.long)))
        ∙ sourced_by_type (a + v) (length types) (taken_from v (lowered a walks))
        ∙ ap (by_type (length types)) (lowered_from a v walks) ∙ grown_from types edges 0 (a + v) (omega arith)

-- ---- ranges one after the other

pub hold_none : (types : List EdgeType) (edges : List EdgeRow) (lists : List (List Neighbor)) → lists ≡ [] → HoldWalks types edges 0 lists
hold_none types edges lists none v h = absurd (omega (arith, h, ap length none))

pub hold_more : (types : List EdgeType) (edges : List EdgeRow) (old more new : List (List Neighbor)) (first : ℕ) → first ≡ length old → new ≡ old ++ more
    → HoldWalks types edges 0 old → HoldWalks types edges first more → HoldWalks types edges 0 new
hold_more types edges old more new first is e held behind = subst (HoldWalks types edges 0) (sym e) at
  where
    at : HoldWalks types edges 0 (old ++ more)
    at v h = elim (lt_or_le v (length old)) [
      | inl low ↦ ap (map (walked (0 + v))) (get_or_append_left old more [] v low) ∙ held v low
      | inr high ↦
          let here : first + (v - length old) ≡ 0 + v = omega (arith, is, high) in
          ap (map (walked (0 + v))) (get_or-append_right old more (length old) v [] refl high)
          ∙ subst (λ (s : ℕ). map (walked s) (ways_at more (v - length old)) ≡ walks_from types edges s) here (behind (v - length old) (omega (arith, h, high, length-append old more)))
    ]

-- lists of all vertices are an index
pub hold_all : (types : List EdgeType) (edges : List EdgeRow) (n : ℕ) (lists : List (List Neighbor)) → length lists ≡ n → HoldWalks types edges 0 lists
    → laid_out lists ≡ map (walks_from types edges) (below n)
hold_all types edges n lists long held =
    ap (λ m. map (λ v. map (walked v) (ways_at lists v)) (below m)) long
    ∙ map_below_agree (λ v. map (walked v) (ways_at lists v)) (walks_from types edges) n
    (λ v h. let here : 0 + v ≡ v = omega arith in
    subst (λ (s : ℕ). map (walked s) (ways_at lists v) ≡ walks_from types edges s) here (held v (omega (arith, h, long))))

-- ---- putting a walk

pub put_in : (a n count : ℕ) (old new : RangeLists) (walks : List Traversal) (w : Traversal) → new.first ≡ old.first → old.first ≤ w.source
    → (AreListed n count (lists_of old.lists) (lowered old.first walks)
    → AreListed n count (lists_of new.lists) (lowered old.first walks ++ counted_from old.first w ∷ []))
    → AreRanged a n count old walks → AreRanged a n count new (walks ++ w ∷ [])
put_in a n count old new walks w same low more are = record {
  first_is = same ∙ are.first_is;
  lists = subst (λ (f : ℕ). AreListed n count (lists_of new.lists) (lowered f (walks ++ w ∷ []))) are.first_is
      (subst (AreListed n count (lists_of new.lists)) (sym (lowered_in old.first walks w low))
      (more (subst (λ (f : ℕ). AreListed n count (lists_of old.lists) (lowered f walks)) (sym are.first_is) are.lists)));
}

pub put_out : (a n count : ℕ) (range : RangeLists) (walks : List Traversal) (w : Traversal) → w.source < range.first
    → AreRanged a n count range walks → AreRanged a n count range (walks ++ w ∷ [])
put_out a n count range walks w past are = record {
  first_is = are.first_is;
  lists = subst (AreListed n count (lists_of range.lists)) (sym (lowered_out a walks w (omega (arith, past, are.first_is)))) are.lists;
}

-- ---- the range of all vertices

pub ranged_all : (n count : ℕ) (range : RangeLists) (walks : List Traversal) → range.first ≡ 0 → AreListed n count (lists_of range.lists) walks
    → AreRanged 0 n count range walks
ranged_all n count range walks is are = record { first_is = is; lists = subst (AreListed n count (lists_of range.lists)) (sym (lowered_all walks)) are }

pub all_listed : (n count : ℕ) (range : RangeLists) (walks : List Traversal) → AreRanged 0 n count range walks → AreListed n count (lists_of range.lists) walks
all_listed n count range walks are = subst (AreListed n count (lists_of range.lists)) (lowered_all walks) are.lists
