-- EntryLemmas: under which types the index has the walks of a step.
use Rattle.std.proofs.Common.{ℕ, ◌+◌, ◌<◌, ◌≡◌, Bool, true, false, cond, not, List, [], ◌∷◌, ◌++◌, ◌==◌, ◌||◌, ◌&&◌, length, get_or, map, Option, Some, None, refl, ap, ap₂, sym, ◌∙◌, subst, arith, append-nil}
use Rattle.std.specs.List.{slice_get}
use Rattle.std.specs.Option.{is_some, option_to_list, unwrap_or}
use Rattle.std.proofs.lemmas.List.Concat.{flat_map-append}
use Rattle.std.proofs.lemmas.List.Elements.{filter-append, All-nil, All-cons, All-append}
use Rattle.std.proofs.lemmas.Option.{get_or_from_slice_get, slice_get_within}
use Rattle.std.proofs.lemmas.Bool.Decides.{nat_tests}
use Rattle.gq_graph.specs.declared.types.EdgeType.{EdgeType}
use Rattle.gq_graph.specs.declared.rows.EdgeRow.{EdgeRow}
use Rattle.gq_graph.specs.Candidates as index
use Rattle.gq_graph.specs.Edges.{edge_at}
use Rattle.gq_index.specs.declared.walks.Traversal.{Traversal}
use Rattle.gq_index.specs.Places.{below}
use Rattle.gq_index.specs.Sights.{type_at, no_type}
use Rattle.gq_index.specs.Walks as index_walks
use Rattle.gq_index.specs.Walks.{walks_under}
use Rattle.gq_index.proofs.WalkLemmas.{filter_flat_map, flat_map_below}
use Rattle.gq_index.proofs.IndexLemmas.{map_flat_map}
use Rattle.gq_rules_typing.specs.Way.{Way}
use Rattle.gq_rules_typing.specs.Way.TheVariants as way
use Rattle.gq_rules_typing.specs.Patterns.{PathStep}
use Rattle.gq_rules_meaning.specs.Paths.{led_to, far_end, ways_of}
use Rattle.gq_exec_source.specs.declared.entries.Entry.{Entry}
use Rattle.gq_exec_source.specs.Entries.{is_one_way, goes_forward, is_forward, reverses, only_if, other_among, other_way, entry_in, found, AreFound}
use Rattle.gq_exec_source.specs.Hops.{taken_from}
use Rattle.gq_exec_source.specs.Ways.{walk_between, row_walks, walks_along, type_walks, step_walks}
use Rattle.gq_exec_source.proofs.ListLemmas.{flat_map_same}
use Rattle.gq_exec_source.proofs.RowLemmas.{first_walks, first_all, no_walks}
use Rattle.gq_exec_source.proofs.WayLemmas.{row_from}

-- ---- along one row

-- the vertex that a row leads to, from the data of its type: in a way, and in the index
abbrev far : Way → ℕ → Option ℕ → EdgeRow → ℕ → Option ℕ
far w e forward row v = cond (row.kind == unwrap_or forward e) (led_to w (cond (is_some forward) (row.to, row.from) (row.from, row.to)) v) None

abbrev index_far : ℕ → Option ℕ → Bool → EdgeRow → ℕ → Option ℕ
index_far e forward directed row v =
    cond (row.kind == unwrap_or forward e) (cond (is_some forward) back (cond (row.from == v) (Some row.to) (cond directed None back))) None
  where
    back : Option ℕ
    back = cond (row.to == v) (Some row.from) None

forward_far : (e : ℕ) (forward : Option ℕ) (directed : Bool) (row : EdgeRow) (v : ℕ) → (directed || is_some forward) ≡ true → far way.Forward e forward row v ≡ index_far e forward directed row v
forward_far e (Some base) directed row v h = refl
forward_far e None true row v h = refl
forward_far e None false row v h = absurd (cc h)

both_far : (e : ℕ) (forward : Option ℕ) (directed : Bool) (row : EdgeRow) (v : ℕ) → not (directed || is_some forward) ≡ true → far way.Both e forward row v ≡ index_far e forward directed row v
both_far e (Some base) true row v h = absurd (cc h)
both_far e (Some base) false row v h = absurd (cc h)
both_far e None true row v h = absurd (cc h)
both_far e None false row v h = refl

-- under the forward type of a reverse type
base_far : (e base : ℕ) (forward : Option ℕ) (directed : Bool) (row : EdgeRow) (v : ℕ) → (directed && not (is_some forward)) ≡ true
    → far way.Backward e (Some base) row v ≡ index_far base forward directed row v
base_far e base None true row v h = refl
base_far e base None false row v h = absurd (cc h)
base_far e base (Some x) true row v h = absurd (cc h)
base_far e base (Some x) false row v h = absurd (cc h)

the_same : (a b : ℕ) → (a == b) ≡ true → a ≡ b
the_same a b h = grind (arith, nat_tests)

-- under the reverse type
reverse_far : (e reverse : ℕ) (forward : Option ℕ) (directed : Bool) (row : EdgeRow) (v : ℕ) → is_forward e forward ≡ true
    → far way.Backward e None row v ≡ index_far reverse forward directed row v
reverse_far e reverse None directed row v h = absurd (cc h)
reverse_far e reverse (Some base) directed row v h =
    ap (λ n. cond (row.kind == n) (cond (row.to == v) (Some row.from) None) None) (sym (the_same base e h))

-- the index follows each row that a type follows in a way
record IsEntry (types : List EdgeType) (w : Way) (e under : ℕ) (type : EdgeType) : Type 0 where
  there : under < length types
  same : (row : EdgeRow) (v : ℕ) → far_end w (e, type) row v ≡ index.far_end (under, type_at types under) row v

only_is : (b : Bool) (n m : ℕ) → only_if b n ≡ Some m → (b ≡ true) × (n ≡ m)
only_is true n m is = (refl, cc is)
only_is false n m is = absurd (cc is)

own_is : (types : List EdgeType) (w : Way) (e under : ℕ) (type : EdgeType) → e < length types → type ≡ type_at types e → ((row : EdgeRow) (v : ℕ) → far_end w (e, type) row v ≡ index.far_end (e, type) row v)
    → e ≡ under → IsEntry types w e under type
own_is types w e under type low is leads same =
    subst (λ (n : ℕ). IsEntry types w e n type) same (record { there = low; same = λ row v. leads row v ∙ ap (λ t. index.far_end (e, t) row v) is })

other_is : (types : List EdgeType) (e under : ℕ) (type : EdgeType) → other_way types e type ≡ Some under → IsEntry types way.Backward e under type
other_is types e under type is = by type.forward type.reverse refl is
  where
    at_base : (base : ℕ) (o : Option EdgeType) → slice_get types base ≡ o → type.forward ≡ Some base → goes_forward o ≡ true → IsEntry types way.Backward e base type
    at_base base None got turned h = absurd (cc h)
    at_base base (Some other) got turned h = record {
      there = slice_get_within types base other got;
      same = λ row v.
          ap (λ f. far way.Backward e f row v) turned ∙ base_far e base other.forward other.directed row v h
          ∙ ap (λ t. index.far_end (base, t) row v) (sym (get_or_from_slice_get types base other no_type got));
    }

    at_reverse : (reverse : ℕ) (o : Option EdgeType) → slice_get types reverse ≡ o → type.forward ≡ None → reverses e o ≡ true → IsEntry types way.Backward e reverse type
    at_reverse reverse None got turned h = absurd (cc h)
    at_reverse reverse (Some other) got turned h = record {
      there = slice_get_within types reverse other got;
      same = λ row v.
          ap (λ f. far way.Backward e f row v) turned ∙ reverse_far e reverse other.forward other.directed row v h
          ∙ ap (λ t. index.far_end (reverse, t) row v) (sym (get_or_from_slice_get types reverse other no_type got));
    }

    by : (f r : Option ℕ) → type.forward ≡ f → other_among types e f r ≡ Some under → IsEntry types way.Backward e under type
    by (Some base) r turned got =
        let h = only_is (goes_forward (slice_get types base)) base under got in
        subst (λ (n : ℕ). IsEntry types way.Backward e n type) h.1 (at_base base (slice_get types base) refl turned h.0)
    by None (Some reverse) turned got =
        let h = only_is (reverses e (slice_get types reverse)) reverse under got in
        subst (λ (n : ℕ). IsEntry types way.Backward e n type) h.1 (at_reverse reverse (slice_get types reverse) refl turned h.0)
    by None None turned got = absurd (cc got)

entry_is : (types : List EdgeType) (w : Way) (e under : ℕ) (type : EdgeType) → e < length types → type ≡ type_at types e → entry_in types e type w ≡ Some under → IsEntry types w e under type
entry_is types way.Forward e under type low at is =
    let h = only_is (is_one_way type) e under is in
    own_is types way.Forward e under type low at (λ row v. forward_far e type.forward type.directed row v h.0) h.1
entry_is types way.Backward e under type low at is = other_is types e under type is
entry_is types way.Both e under type low at is =
    let h = only_is (not (is_one_way type)) e under is in
    own_is types way.Both e under type low at (λ row v. both_far e type.forward type.directed row v h.0) h.1

-- ---- along all rows of a type

renamed : (e under r v : ℕ) (far : Option ℕ)
    → map {B = Traversal} (λ (walk : Traversal). record walk { kind = e }) (map {B = Traversal} (λ far. record { source = v; kind = under; row = r; target = far }) (option_to_list far))
    ≡ map (walk_between e r v) (option_to_list far)
renamed e under r v None = refl
renamed e under r v (Some far) = refl

found_one : (types : List EdgeType) (edges : List EdgeRow) (v : ℕ) (w : Way) (e under : ℕ) (type : EdgeType) → IsEntry types w e under type
    → found types edges v (record { kind = e; under = under }) ≡ taken_from v (type_walks (w ∷ []) type e edges)
unfolding type_walks
found_one types edges v w e under type entry =
    let rename : Traversal → Traversal = λ (walk : Traversal). record walk { kind = e } in
    let n : ℕ = length edges in
    let there : ℕ → List Traversal = λ r. index_walks.walks_along types v under r (edge_at edges r) in
    let here : ℕ → List Traversal = λ r. walks_along (w ∷ []) type e r (edge_at edges r) in
    map_flat_map rename there (below n)
    ∙ flat_map_same (λ r. map rename (there r)) (λ r. taken_from v (here r)) at (below n)
    ∙ sym (filter_flat_map (λ (x : Traversal). x.source == v) here (below n))
  where
    at : (r : ℕ) → map {B = Traversal} (λ (walk : Traversal). record walk { kind = e }) (index_walks.walks_along types v under r (edge_at edges r)) ≡ taken_from v (walks_along (w ∷ []) type e r (edge_at edges r))
    at r =
        let row : EdgeRow = edge_at edges r in
        renamed e under r v (index.far_end (under, type_at types under) row v)
        ∙ ap (λ o. map (walk_between e r v) (option_to_list o)) (sym (entry.same row v))
        ∙ sym (ap (taken_from v) (append-nil (row_walks type e r row w)) ∙ row_from type e r v row w)

-- ---- type after type

one_way : (ways : List Way) (w : Way) → length ways ≡ 1 → w ≡ get_or ways 0 w → ways ≡ w ∷ []
one_way [] w one is = absurd (omega (arith, one))
one_way (x ∷ []) w one is = ap (λ y. y ∷ []) (sym is)
one_way (x ∷ y ∷ ways) w one is = absurd (omega (arith, one))

pub entries_first : (step : PathStep) (types : List EdgeType) (entries : List Entry) → entries ≡ [] → AreFound types entries (λ edges. first_walks step types edges 0)
entries_first step types entries none = subst (λ (l : List Entry). AreFound types l (λ edges. first_walks step types edges 0)) (sym none) (record { there = All-nil (λ (entry : Entry). entry.under < length types); same = λ edges v. refl })

-- a type that the step walks in one way
pub entry_more : (step : PathStep) (types : List EdgeType) (entries new : List Entry) (ways : List Way) (w : Way) (e under : ℕ) (type : EdgeType)
    → e < length types → type ≡ type_at types e → ways ≡ ways_of step e → length ways ≡ 1 → w ≡ get_or ways 0 w → entry_in types e type w ≡ Some under
    → new ≡ entries ++ record { kind = e; under = under } ∷ []
    → AreFound types entries (λ edges. first_walks step types edges e) → AreFound types new (λ edges. first_walks step types edges (e + 1))
entry_more step types entries new ways w e under type low at went one is got more before =
    subst (λ (l : List Entry). AreFound types l (λ edges. first_walks step types edges (e + 1))) (sym more) (record {
      there = All-append (λ (x : Entry). x.under < length types) entries (entry ∷ []) before.there
          (All-cons (λ (x : Entry). x.under < length types) entry [] leads.there (All-nil (λ (x : Entry). x.under < length types)));
      same = λ edges v.
          let F : Entry → List Traversal = found types edges v in
          let T : ℕ → List Traversal = λ e. type_walks (ways_of step e) (type_at types e) e edges in
          flat_map-append F entries (entry ∷ [])
          ∙ ap₂ (λ (a b : List Traversal). a ++ b) (before.same edges v)
          (append-nil (F entry) ∙ found_one types edges v w e under type leads
          ∙ ap (λ ws. taken_from v (type_walks ws type e edges)) (sym (one_way ways w one is) ∙ went) ∙ ap (λ t. taken_from v (type_walks (ways_of step e) t e edges)) at)
          ∙ sym (ap (taken_from v) (flat_map_below T e) ∙ filter-append (λ (x : Traversal). x.source == v) (first_walks step types edges e) (T e));
    })
  where
    entry : Entry
    entry = record { kind = e; under = under }

    leads : IsEntry types w e under type
    leads = entry_is types w e under type low at got

-- a type that it doesn't walk
pub entry_none : (step : PathStep) (types : List EdgeType) (entries : List Entry) (ways : List Way) (e : ℕ) → ways ≡ ways_of step e → length ways ≡ 0
    → AreFound types entries (λ edges. first_walks step types edges e) → AreFound types entries (λ edges. first_walks step types edges (e + 1))
unfolding type_walks
entry_none step types entries ways e went none before = record {
  there = before.there;
  same = λ edges v.
      let T : ℕ → List Traversal = λ e. type_walks (ways_of step e) (type_at types e) e edges in
      before.same edges v
      ∙ ap (taken_from v) (sym (flat_map_below T e ∙ ap (λ l. first_walks step types edges e ++ l) (no_walks (ways_of step e) (type_at types e) e edges (below (length edges)) (sym (ap length went) ∙ none)) ∙ append-nil (first_walks step types edges e)));
}

pub entries_all : (step : PathStep) (types : List EdgeType) (entries : List Entry) (n : ℕ) → n ≡ length types → AreFound types entries (λ edges. first_walks step types edges n) → AreFound types entries (step_walks step types)
entries_all step types entries n whole are = record { there = are.there; same = λ edges v. are.same edges v ∙ ap (taken_from v) (first_all step types edges n whole) }
