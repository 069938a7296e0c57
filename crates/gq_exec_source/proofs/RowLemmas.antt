-- RowLemmas: the walks along the rows of a type's own are all of the type's, and type after type they are all walks of a step.
-- Without their attributes the rows have the same walks.
use Rattle.std.specs.Prelude.{min}
use Rattle.std.proofs.Common.{inl, inr, ℕ, ◌+◌, ◌<◌, ◌≡◌, ◌≢◌, Bool, true, false, cond, List, [], ◌∷◌, ◌++◌, ◌==◌, length, get_or, refl, ap, sym, subst, ◌∙◌, arith, zero-add}
use Rattle.std.specs.List.{filter, flat_map}
use Rattle.std.proofs.lemmas.List.{ext_get_or, get_or-map, length-map}
use Rattle.std.proofs.lemmas.List.Elements.{filter-append}
use Rattle.std.proofs.lemmas.List.FromFn.{get_or-map-range_with_len}
use Rattle.std.proofs.lemmas.Bool.Decides.{nat_tests}
use Rattle.std.proofs.lemmas.Bool.{cases_eq}
use Rattle.gq_graph.specs.declared.types.EdgeType.{EdgeType}
use Rattle.gq_graph.specs.declared.rows.EdgeRow.{EdgeRow}
use Rattle.gq_graph.specs.Edges.{edge_at, no_edge}
use Rattle.gq_index.specs.declared.walks.Traversal.{Traversal}
use Rattle.gq_index.specs.Places.{below, passing, holds, cut_up, IsPlaced}
use Rattle.gq_index.specs.Sights.{type_at}
use Rattle.gq_index.specs.Kept.{SameWay}
use Rattle.gq_index.specs.Walks.{base_of, edge_kinds}
use Rattle.gq_index.proofs.KeptLemmas.{AreEnds}
use Rattle.gq_index.proofs.WalkLemmas.{flat_map_filter, flat_map_agree, flat_map_below}
use Rattle.gq_rules_typing.specs.Way.{Way}
use Rattle.gq_rules_typing.specs.Patterns.{PathStep}
use Rattle.gq_rules_meaning.specs.Paths.{ends_under, ways_of}
use Rattle.gq_exec_source.specs.Ways.{walks_in, walks_along, type_walks, step_walks}

-- the part of a type has its rows
kind_part : (rows : List EdgeRow) (starts order : List ℕ) (kinds b : ℕ) → IsPlaced (edge_kinds kinds rows) (kinds + 1) starts order
    → get_or (cut_up starts order) (min kinds b) [] ≡ passing (holds (edge_kinds kinds rows) (min kinds b)) (length rows)
kind_part rows starts order kinds b placed =
    let keys : List ℕ = edge_kinds kinds rows in
    let k : ℕ = min kinds b in
    ap (λ l. get_or l k []) placed.groups
    ∙ get_or-map-range_with_len (λ k. passing (holds keys k) (length keys)) 0 (kinds + 1) k k [] (min_low kinds b) (zero-add k)
    ∙ ap (passing (holds keys k)) (length-map rows (λ (row : EdgeRow). min row.kind kinds))
  where
    min_low : (a b : ℕ) → min a b < a + 1
    min_low a b = grind (arith, nat_tests)

none_along : (ways : List Way) (t : EdgeType) (e r : ℕ) (row : EdgeRow) → (row.kind == base_of t e) ≡ false → walks_along ways t e r row ≡ []
none_along [] t e r row other = refl
none_along (w ∷ ways) t e r row other =
    ap (λ b. cond b (walks_in w e r (ends_under t row)) [] ++ walks_along ways t e r row) other ∙ none_along ways t e r row other

cond_none : (b : Bool) → cond {A = List Traversal} b [] [] ≡ []
cond_none true = refl
cond_none false = refl

-- a row that isn't in the part of a type has no walks under it
kept_kind : (ways : List Way) (t : EdgeType) (e r : ℕ) (row : EdgeRow) (kinds : ℕ)
    → cond (min row.kind kinds == min kinds (base_of t e)) (walks_along ways t e r row) [] ≡ walks_along ways t e r row
kept_kind ways t e r row kinds = elim (cases_eq row.kind (base_of t e)) [
  | inl same ↦ ap (λ b. cond b (walks_along ways t e r row) []) (here row.kind (base_of t e) kinds same)
  | inr other ↦ rw (none_along ways t e r row (differs row.kind (base_of t e) other)) (cond_none (min row.kind kinds == min kinds (base_of t e)))
]
  where
    here : (a b n : ℕ) → a ≡ b → (min a n == min n b) ≡ true
    here a b n e = grind (arith, nat_tests)

    differs : (a b : ℕ) → a ≢ b → (a == b) ≡ false
    differs a b ne = grind (arith, nat_tests)

part_walks : (ways : List Way) (rows : List EdgeRow) (t : EdgeType) (e kinds : ℕ)
    → flat_map (λ r. walks_along ways t e r (edge_at rows r)) (passing (holds (edge_kinds kinds rows) (min kinds (base_of t e))) (length rows)) ≡ type_walks ways t e rows
unfolding passing type_walks
part_walks ways rows t e kinds =
    let k : ℕ = min kinds (base_of t e) in
    let has : ℕ → Bool = holds (edge_kinds kinds rows) k in
    let along : ℕ → List Traversal = λ r. walks_along ways t e r (edge_at rows r) in
    flat_map_filter along has (below (length rows))
    ∙ flat_map_agree (λ r. cond (has r) (along r) []) along (length rows)
    (λ r h. ap (λ x. cond (x == k) (along r) []) (get_or-map (λ (row : EdgeRow). min row.kind kinds) rows r no_edge 0 h)
    ∙ kept_kind ways t e r (edge_at rows r) kinds)

-- the walks of the types below e, and of e
abbrev pub first_walks : PathStep → List EdgeType → List EdgeRow → ℕ → List Traversal
first_walks step types rows e = flat_map (λ e. type_walks (ways_of step e) (type_at types e) e rows) (below e)

pub type_more : (p : Traversal → Bool) (step : PathStep) (types : List EdgeType) (rows : List EdgeRow) (starts order part : List ℕ) (ways : List Way) (t : EdgeType) (e : ℕ) (now later : List Traversal)
    → IsPlaced (edge_kinds (length types) rows) (length types + 1) starts order → t ≡ type_at types e → ways ≡ ways_of step e
    → part ≡ get_or (cut_up starts order) (min (length types) (base_of t e)) []
    → now ≡ filter p (first_walks step types rows e) → later ≡ now ++ filter p (flat_map (λ r. walks_along ways t e r (edge_at rows r)) part)
    → later ≡ filter p (first_walks step types rows (e + 1))
type_more p step types rows starts order part ways t e now later placed is went parted was more =
    let all : List Traversal = first_walks step types rows e in
    more ∙ ap (λ l. l ++ filter p (flat_map (λ r. walks_along ways t e r (edge_at rows r)) part)) was
    ∙ ap (λ l. filter p all ++ filter p (flat_map (λ r. walks_along ways t e r (edge_at rows r)) l)) (parted ∙ kind_part rows starts order (length types) (base_of t e) placed)
    ∙ ap (λ l. filter p all ++ filter p l) (part_walks ways rows t e (length types))
    ∙ ap (λ u. filter p all ++ filter p (type_walks ways u e rows)) is
    ∙ ap (λ w. filter p all ++ filter p (type_walks w (type_at types e) e rows)) went
    ∙ sym (filter-append p all (type_walks (ways_of step e) (type_at types e) e rows))
    ∙ ap (filter p) (sym (flat_map_below (λ e. type_walks (ways_of step e) (type_at types e) e rows) e))

pub first_all : (step : PathStep) (types : List EdgeType) (rows : List EdgeRow) (n : ℕ) → n ≡ length types → first_walks step types rows n ≡ step_walks step types rows
unfolding step_walks
first_all step types rows n is = ap (first_walks step types rows) is

-- a type that a step walks in no way has no walks
pub no_walks : (ways : List Way) (t : EdgeType) (e : ℕ) (rows : List EdgeRow) (numbers : List ℕ) → length ways ≡ 0
    → flat_map (λ r. walks_along ways t e r (edge_at rows r)) numbers ≡ []
no_walks [] t e rows [] none = refl
no_walks [] t e rows (r ∷ numbers) none = no_walks [] t e rows numbers none
no_walks (w ∷ ways) t e rows numbers none = absurd (omega (arith, none))

-- ---- rows without their attributes: no walk depends on one

walks_alike : (ways : List Way) (t : EdgeType) (e r : ℕ) (a b : EdgeRow) → SameWay b a → walks_along ways t e r a ≡ walks_along ways t e r b
walks_alike ways t e r a b same =
    ap (λ kind. walks kind a.from a.to) same.kind ∙ ap (λ from. walks b.kind from a.to) same.from ∙ ap (λ to. walks b.kind b.from to) same.to
  where
    walks : ℕ → ℕ → ℕ → List Traversal
    walks kind from to = walks_along ways t e r (record { kind = kind; from = from; to = to; attributes = [] })

type_alike : (ways : List Way) (t : EdgeType) (e : ℕ) (ends rows : List EdgeRow) → AreEnds ends rows → type_walks ways t e ends ≡ type_walks ways t e rows
unfolding type_walks
type_alike ways t e ends rows are =
    ap (λ n. flat_map (λ r. walks_along ways t e r (edge_at ends r)) (below n)) are.long
    ∙ flat_map_agree (λ r. walks_along ways t e r (edge_at ends r)) (λ r. walks_along ways t e r (edge_at rows r)) (length rows)
    (λ r h. walks_alike ways t e r (edge_at ends r) (edge_at rows r) (are.same r h))

pub steps_alike : (step : PathStep) (types : List EdgeType) (ends rows : List EdgeRow) → AreEnds ends rows → step_walks step types ends ≡ step_walks step types rows
unfolding step_walks
steps_alike step types ends rows are =
    flat_map_agree (λ e. type_walks (ways_of step e) (type_at types e) e ends) (λ e. type_walks (ways_of step e) (type_at types e) e rows) (length types)
    (λ e _. type_alike (ways_of step e) (type_at types e) e ends rows are)

kinds_alike : (count : ℕ) (ends rows : List EdgeRow) → AreEnds ends rows → edge_kinds count ends ≡ edge_kinds count rows
kinds_alike count ends rows are =
    ext_get_or 0 (edge_kinds count ends) (edge_kinds count rows) (omega (arith, length-map ends kind, length-map rows kind, are.long))
    (λ r h.
    let low : r < length rows = omega (arith, h, length-map ends kind, are.long) in
    get_or-map kind ends r no_edge 0 (omega (arith, low, are.long)) ∙ ap (λ k. min k count) (are.same r low).kind ∙ sym (get_or-map kind rows r no_edge 0 low))
  where
    kind : EdgeRow → ℕ
    kind row = min row.kind count

-- the order of rows by type is one of rows without attributes, and vice versa
pub placed_rows : (count types : ℕ) (ends rows : List EdgeRow) (starts order : List ℕ) → AreEnds ends rows → IsPlaced (edge_kinds count ends) types starts order → IsPlaced (edge_kinds count rows) types starts order
placed_rows count types ends rows starts order are placed = subst (λ (keys : List ℕ). IsPlaced keys types starts order) (kinds_alike count ends rows are) placed

pub placed_ends : (count types : ℕ) (ends rows : List EdgeRow) (starts order : List ℕ) → AreEnds ends rows → IsPlaced (edge_kinds count rows) types starts order → IsPlaced (edge_kinds count ends) types starts order
placed_ends count types ends rows starts order are placed = subst (λ (keys : List ℕ). IsPlaced keys types starts order) (sym (kinds_alike count ends rows are)) placed
