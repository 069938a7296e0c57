-- LookupLemmas: the index entries from a vertex are the walks of one step, and step by step they are all bindings.
use Rattle.std.proofs.Common.{ℕ, zero, suc, ◌+◌, ◌-◌, ◌<◌, ◌≤◌, ◌≡◌, Bool, true, false, cond, List, [], ◌∷◌, ◌++◌, ◌==◌, length, get_or, take, drop, map, refl, ap, ap₂, sym, ◌∙◌, subst, arith, leb, ltb, leb-true, ltb-false, eq-eqb, append-nil, append_assoc, length-append}
use Rattle.std.specs.List.{filter, flat_map, All, AllByRecursion}
use Rattle.std.specs.List.Sorted.{IsPartitionPoint}
use Rattle.std.proofs.lemmas.List.{map-append, take_more, take_all, length-map, length-take-le, length-drop, get_or-drop}
use Rattle.std.proofs.lemmas.List.Elements.{filter-append, All-nil, All-cons}
use Rattle.std.proofs.lemmas.List.Folds.{flat_map-map}
use Rattle.std.proofs.lemmas.Bool.Decides.{nat_tests}
use Rattle.gq_graph.specs.declared.types.EdgeType.{EdgeType}
use Rattle.gq_graph.specs.declared.rows.EdgeRow.{EdgeRow}
use Rattle.gq_graph.specs.declared.rows.Candidate.{Candidate}
use Rattle.gq_graph.specs.declared.rows.VertexRow.{VertexRow}
use Rattle.gq_graph.specs.Candidates.{Sight, by_number, alone, among}
use Rattle.gq_index.specs.declared.walks.Traversal.{Traversal}
use Rattle.gq_index.specs.declared.walks.Neighbor.{Neighbor}
use Rattle.gq_index.specs.Segments.{of_walk}
use Rattle.gq_index.specs.Walks.{walked, walks_under, walks_from}
use Rattle.gq_index.proofs.WalkLemmas.{filter_flat_map}
use Rattle.gq_index.proofs.IndexLemmas.{map_flat_map}
use Rattle.gq_index.proofs.DegreeLemmas.{of_kind}
use Rattle.gq_rules_typing.specs.Patterns.{PathStep}
use Rattle.gq_rules_meaning.specs.Paths.{steps_from, bindings}
use Rattle.gq_exec_source.specs.declared.entries.Entry.{Entry}
use Rattle.gq_exec_source.specs.declared.indexed.IndexedStep.{IndexedStep}
use Rattle.gq_exec_source.specs.Entries.{found, AreFound}
use Rattle.gq_exec_source.specs.Indexed.{plain, is_left_out, leads_on, went_on, IsReady, AreReady}
use Rattle.gq_exec_source.specs.declared.path_types.PathStep as code
use Rattle.gq_exec_source.specs.Hops.{on_along, start_at, taken_from}
use Rattle.gq_exec_source.specs.Ways.{step_of, step_walks}
use Rattle.gq_exec_source.proofs.LeadingLemmas.{leading_low, led_all}
use Rattle.gq_exec_source.proofs.BindingLemmas.{split_first, from_start}
use Rattle.gq_exec_source.proofs.ListLemmas.{flat_map_same, flat_map_single, flat_map_more, first_shorter}
use Rattle.gq_exec_source.proofs.StartLemmas.{numbers_below}

-- ---- the part of a type among the ways from a vertex

module _ {X : Type 0} (p : X → Bool) (d : X) where
  none_pass : (xs : List X) → ((i : ℕ) → i < length xs → p (get_or xs i d) ≡ false) → filter p xs ≡ []
  none_pass [] fail = refl
  none_pass (x ∷ xs) fail = ap (λ b. cond b (x ∷ filter p xs) (filter p xs)) (fail 0 (omega arith)) ∙ none_pass xs (λ i h. fail (suc i) (omega (arith, h)))

  first_pass : (xs : List X) (n : ℕ) → n ≤ length xs → ((i : ℕ) → i < n → p (get_or xs i d) ≡ true) → ((i : ℕ) → n ≤ i → i < length xs → p (get_or xs i d) ≡ false)
      → filter p xs ≡ take n xs
  first_pass [] zero low pass fail = refl
  first_pass [] (suc n) low pass fail = absurd (omega (arith, low))
  first_pass (x ∷ xs) zero low pass fail = none_pass (x ∷ xs) (λ i h. fail i (omega arith) h)
  first_pass (x ∷ xs) (suc n) low pass fail =
      ap (λ b. cond b (x ∷ filter p xs) (filter p xs)) (pass 0 (omega arith))
      ∙ ap (λ l. x ∷ l) (first_pass xs n (omega (arith, low)) (λ i h. pass (suc i) (omega (arith, h))) (λ i g h. fail (suc i) (omega (arith, g)) (omega (arith, h))))

  later_pass : (xs : List X) (n : ℕ) → n ≤ length xs → ((i : ℕ) → i < n → p (get_or xs i d) ≡ false) → filter p xs ≡ filter p (drop n xs)
  later_pass xs zero low fail = refl
  later_pass [] (suc n) low fail = absurd (omega (arith, low))
  later_pass (x ∷ xs) (suc n) low fail =
      ap (λ b. cond b (x ∷ filter p xs) (filter p xs)) (fail 0 (omega arith)) ∙ later_pass xs n (omega (arith, low)) (λ i h. fail (suc i) (omega (arith, h)))

filter_walked : (v k : ℕ) (ways : List Neighbor) → filter (λ (w : Traversal). w.kind == k) (map (walked v) ways) ≡ map (walked v) (filter (λ (way : Neighbor). way.kind == k) ways)
filter_walked v k [] = refl
filter_walked v k (x ∷ xs) =
    elim (x.kind == k) as (λ b. cond b (walked v x ∷ filter (λ (w : Traversal). w.kind == k) (map (walked v) xs)) (filter (λ (w : Traversal). w.kind == k) (map (walked v) xs))
    ≡ map (walked v) (cond b (x ∷ filter (λ (way : Neighbor). way.kind == k) xs) (filter (λ (way : Neighbor). way.kind == k) xs))) [
      | true ↦ ap (λ l. walked v x ∷ l) (filter_walked v k xs)
      | false ↦ filter_walked v k xs
    ]

lower_differs : (a k : ℕ) → ltb a k ≡ true → (a == k) ≡ false
lower_differs a k h = grind (arith, nat_tests)

higher_differs : (a k : ℕ) → leb a k ≡ false → (a == k) ≡ false
higher_differs a k h = grind (arith, nat_tests)

no_neighbor : Neighbor
no_neighbor = record { kind = 0; row = 0; target = 0 }

-- the ways of the type are between both points
pub part_is : (types : List EdgeType) (edges : List EdgeRow) (v k first count : ℕ) (ways rest part : List Neighbor) → map (walked v) ways ≡ walks_from types edges v → k < length types
    → first ≤ length ways → IsPartitionPoint (λ (way : Neighbor). ltb way.kind k ≡ true) (λ (way : Neighbor). ltb way.kind k ≡ false) ways first → rest ≡ drop first ways
    → count ≤ length rest → IsPartitionPoint (λ (way : Neighbor). leb way.kind k ≡ true) (λ (way : Neighbor). leb way.kind k ≡ false) rest count → part ≡ take count rest
    → map (walked v) part ≡ walks_under types edges v k
unfolding no_neighbor
part_is types edges v k first count ways rest part are there low point is high point' cut =
    ap (map (walked v)) (cut ∙ sym (first_pass has no_neighbor rest count high here (λ j g h. higher_differs (get_or rest j no_neighbor).kind k (point'.1 j no_neighbor g h)))
    ∙ ap (filter has) is ∙ sym (later_pass has no_neighbor ways first low (λ i h. lower_differs (get_or ways i no_neighbor).kind k (point.0 i no_neighbor (omega (arith, low, h)) h))))
    ∙ sym (filter_walked v k ways) ∙ ap (filter (λ (w : Traversal). w.kind == k)) are ∙ of_kind types edges v k there
  where
    has : Neighbor → Bool
    has way = way.kind == k

    long : length rest ≡ length ways - first
    long = ap length is ∙ length-drop first ways

    here : (j : ℕ) → j < count → has (get_or rest j no_neighbor) ≡ true
    here j h =
        let same : get_or rest j no_neighbor ≡ get_or ways (first + j) no_neighbor = ap (λ l. get_or l j no_neighbor) is ∙ get_or-drop first ways j no_neighbor in
        let kinds : (get_or rest j no_neighbor).kind ≡ (get_or ways (first + j) no_neighbor).kind = ap (λ (way : Neighbor). way.kind) same in
        let most : (get_or rest j no_neighbor).kind ≤ k = leb-true _ _ (point'.0 j no_neighbor (omega (arith, h, high)) h) in
        let least : k ≤ (get_or ways (first + j) no_neighbor).kind = ltb-false _ _ (point.1 (first + j) no_neighbor (omega arith) (omega (arith, long, high, low, h))) in
        eq-eqb (get_or rest j no_neighbor).kind k (omega (arith, kinds, most, least))

-- ---- one step

module _ (kinds targets : List ℕ) (rest : List IndexedStep) where
  -- one way more
  went_way : (kind : ℕ) (walk : Traversal) (way : Neighbor) → leads_on kinds targets rest way.target ≡ true
      → went_on kinds targets rest kind walk (way ∷ []) ≡ record { source = walk.source; kind = kind; row = way.row; target = way.target } ∷ []
  went_way kind walk way h = rw h refl

  went_no_way : (kind : ℕ) (walk : Traversal) (way : Neighbor) → leads_on kinds targets rest way.target ≡ false → went_on kinds targets rest kind walk (way ∷ []) ≡ []
  went_no_way kind walk way h = rw h refl

  went_split : (kind : ℕ) (walk : Traversal) (xs ys : List Neighbor) → went_on kinds targets rest kind walk (xs ++ ys) ≡ went_on kinds targets rest kind walk xs ++ went_on kinds targets rest kind walk ys
  went_split kind walk xs ys =
      let on : Neighbor → Traversal = λ way. record { source = walk.source; kind = kind; row = way.row; target = way.target } in
      let p : Neighbor → Bool = λ way. leads_on kinds targets rest way.target in
      ap (map on) (filter-append p xs ys) ∙ map-append on (filter p xs) (filter p ys)

  pub went_first : (kind : ℕ) (walk : Traversal) (ways : List Neighbor) (walks : List Traversal) → walks ≡ walks ++ went_on kinds targets rest kind walk (take 0 ways)
  went_first kind walk ways walks = sym (append-nil walks)

  pub went_more : (kind : ℕ) (walk : Traversal) (ways : List Neighbor) (i : ℕ) (way : Neighbor) (before now later : List Traversal) → i < length ways → way ≡ get_or ways i way
      → leads_on kinds targets rest way.target ≡ true → now ≡ before ++ went_on kinds targets rest kind walk (take i ways)
      → later ≡ now ++ record { source = walk.source; kind = kind; row = way.row; target = way.target } ∷ [] → later ≡ before ++ went_on kinds targets rest kind walk (take (i + 1) ways)
  went_more kind walk ways i way before now later low at h was more =
      more ∙ ap (λ l. l ++ record { source = walk.source; kind = kind; row = way.row; target = way.target } ∷ []) was
      ∙ append_assoc before (went_on kinds targets rest kind walk (take i ways)) (record { source = walk.source; kind = kind; row = way.row; target = way.target } ∷ [])
      ∙ ap (λ l. before ++ l) (ap (λ l. went_on kinds targets rest kind walk (take i ways) ++ l) (sym (went_way kind walk way h)) ∙ sym (went_split kind walk (take i ways) (way ∷ []))
      ∙ ap (went_on kinds targets rest kind walk) (ap (λ x. take i ways ++ x ∷ []) at ∙ sym (take_more ways i way low)))

  pub went_same : (kind : ℕ) (walk : Traversal) (ways : List Neighbor) (i : ℕ) (way : Neighbor) (before now : List Traversal) → i < length ways → way ≡ get_or ways i way
      → leads_on kinds targets rest way.target ≡ false → now ≡ before ++ went_on kinds targets rest kind walk (take i ways) → now ≡ before ++ went_on kinds targets rest kind walk (take (i + 1) ways)
  went_same kind walk ways i way before now low at h was =
      was ∙ ap (λ l. before ++ l) (sym (append-nil (went_on kinds targets rest kind walk (take i ways)))
      ∙ ap (λ l. went_on kinds targets rest kind walk (take i ways) ++ l) (sym (went_no_way kind walk way h)) ∙ sym (went_split kind walk (take i ways) (way ∷ []))
      ∙ ap (went_on kinds targets rest kind walk) (ap (λ x. take i ways ++ x ∷ []) at ∙ sym (take_more ways i way low)))

  pub went_all : (kind : ℕ) (walk : Traversal) (ways : List Neighbor) (i : ℕ) (before now : List Traversal) → length ways ≤ i
      → now ≡ before ++ went_on kinds targets rest kind walk (take i ways) → now ≡ before ++ went_on kinds targets rest kind walk ways
  went_all kind walk ways i before now long was = was ∙ ap (λ l. before ++ went_on kinds targets rest kind walk l) (take_all i ways long)

pub ruleset went_laws = (went_first, went_more, went_same, went_all)

module _ (kinds targets : List ℕ) (rest : List IndexedStep) where
  -- along the ways that the index has under a type
  went_is : (kind : ℕ) (walk : Traversal) (ways : List Neighbor)
      → went_on kinds targets rest kind walk ways ≡ map (on_along walk) (filter (λ (x : Traversal). leads_on kinds targets rest x.target) (map {B = Traversal} (λ (x : Traversal). record x { kind = kind }) (map (walked walk.target) ways)))
  went_is kind walk [] = refl
  went_is kind walk (way ∷ ways) = by (leads_on kinds targets rest way.target) (went_is kind walk ways)
    where
      others : List Traversal
      others = filter (λ (x : Traversal). leads_on kinds targets rest x.target) (map {B = Traversal} (λ (x : Traversal). record x { kind = kind }) (map (walked walk.target) ways))

      on : Neighbor → Traversal
      on way = record { source = walk.source; kind = kind; row = way.row; target = way.target }

      p : Neighbor → Bool
      p way = leads_on kinds targets rest way.target

      by : (b : Bool) → map on (filter p ways) ≡ map (on_along walk) others
          → map on (cond b (way ∷ filter p ways) (filter p ways)) ≡ map (on_along walk) (cond b (record { source = walk.target; kind = kind; row = way.row; target = way.target } ∷ others) others)
      by true later = ap (λ l. on way ∷ l) later
      by false later = later

  -- the walks of the entries so far
  abbrev pub gone : List EdgeType → List EdgeRow → Traversal → List Entry → List Traversal
  gone types edges walk entries = flat_map (λ entry. map (on_along walk) (filter (λ (x : Traversal). leads_on kinds targets rest x.target) (found types edges walk.target entry))) entries

  pub gone_more : (types : List EdgeType) (edges : List EdgeRow) (walk : Traversal) (entries : List Entry) (i : ℕ) (d : Entry) (ways : List Neighbor) (now later : List Traversal)
      → i < length entries → map (walked walk.target) ways ≡ walks_under types edges walk.target (get_or entries i d).under
      → now ≡ gone types edges walk (take i entries) → later ≡ now ++ went_on kinds targets rest (get_or entries i d).kind walk ways → later ≡ gone types edges walk (take (i + 1) entries)
  gone_more types edges walk entries i d ways now later low are was more =
      let entry : Entry = get_or entries i d in
      let G : Entry → List Traversal = λ entry. map (on_along walk) (filter (λ (x : Traversal). leads_on kinds targets rest x.target) (found types edges walk.target entry)) in
      more ∙ ap₂ (λ (a b : List Traversal). a ++ b) was
      (went_is entry.kind walk ways ∙ ap (λ l. map (on_along walk) (filter (λ (x : Traversal). leads_on kinds targets rest x.target) (map {B = Traversal} (λ (x : Traversal). record x { kind = entry.kind }) l))) are)
      ∙ sym (flat_map_more G entries i d low)

  gone_is : (types : List EdgeType) (edges : List EdgeRow) (walk : Traversal) (entries : List Entry)
      → gone types edges walk entries ≡ map (on_along walk) (filter (λ (x : Traversal). leads_on kinds targets rest x.target) (flat_map (found types edges walk.target) entries))
  gone_is types edges walk entries =
      let F : Entry → List Traversal = found types edges walk.target in
      let p : Traversal → Bool = λ x. leads_on kinds targets rest x.target in
      sym (ap (map (on_along walk)) (filter_flat_map p F entries) ∙ map_flat_map (on_along walk) (λ entry. filter p (F entry)) entries)

  gone_within : (walk : Traversal) (walks : List Traversal) → All (λ (w : Traversal). w.target < length kinds) (map (on_along walk) (filter (λ (x : Traversal). leads_on kinds targets rest x.target) walks))
  gone_within walk [] = All-nil (λ (w : Traversal). w.target < length kinds)
  gone_within walk (x ∷ walks) = by (leads_on kinds targets rest x.target) refl (gone_within walk walks)
    where
      others : List Traversal
      others = filter (λ (x : Traversal). leads_on kinds targets rest x.target) walks

      by : (b : Bool) → leads_on kinds targets rest x.target ≡ b → All (λ (w : Traversal). w.target < length kinds) (map (on_along walk) others)
          → All (λ (w : Traversal). w.target < length kinds) (map (on_along walk) (cond b (x ∷ others) others))
      by true h later = All-cons (λ (w : Traversal). w.target < length kinds) (on_along walk x) (map (on_along walk) others) (leading_low kinds targets rest x.target h) later
      by false h later = later

-- one step leads to all that it and the steps after it lead to, and to existing vertices
pub taken_is : (sight : Sight) (step : PathStep) (rest : List IndexedStep) (walk : Traversal) (entries : List Entry) (i : ℕ) (walks : List Traversal) → length entries ≤ i → AreReady sight rest
    → AreFound sight.types entries (step_walks step sight.types) → walks ≡ gone sight.kinds step.targets rest sight.types sight.edges walk (take i entries)
    → flat_map (λ x. steps_from sight (map plain rest) (of_walk x)) walks ≡ steps_from sight (step ∷ map plain rest) (of_walk walk)
taken_is sight step rest walk entries i walks long ready are is =
    let S : Traversal → List Candidate = λ x. steps_from sight (map plain rest) (of_walk x) in
    let on : Traversal → Bool = λ x. leads_on sight.kinds step.targets rest x.target in
    ap (flat_map S) (is ∙ ap (gone sight.kinds step.targets rest sight.types sight.edges walk) (take_all i entries long) ∙ gone_is sight.kinds step.targets rest sight.types sight.edges walk entries
    ∙ ap (λ l. map (on_along walk) (filter on l)) (are.same sight.edges walk.target))
    ∙ flat_map-map S (on_along walk) (filter on (taken_from walk.target (step_walks step sight.types sight.edges)))
    ∙ led_all sight step rest ready walk

pub taken_within : (vertices : List VertexRow) (kinds targets : List ℕ) (rest : List IndexedStep) (types : List EdgeType) (edges : List EdgeRow) (walk : Traversal) (entries : List Entry) (walks : List Traversal)
    → length kinds ≡ length vertices → walks ≡ gone kinds targets rest types edges walk entries → All (λ (w : Traversal). w.target < length vertices) walks
taken_within vertices kinds targets rest types edges walk entries walks count is =
    subst (All (λ (w : Traversal). w.target < length vertices)) (sym (is ∙ gone_is kinds targets rest types edges walk entries))
    (subst (λ (n : ℕ). All (λ (w : Traversal). w.target < n) (map (on_along walk) (filter (λ (x : Traversal). leads_on kinds targets rest x.target) (flat_map (found types edges walk.target) entries)))) count
    (gone_within kinds targets rest walk (flat_map (found types edges walk.target) entries)))

-- ---- one walk after another

pub each_many : {X Y : Type 0} (g : X → Y) (xs : List X) (i : ℕ) (before now : List Y) (most : ℕ) → i < length xs → now ≡ before ++ map g (take i xs) → most < length now + 1
    → most < length before + length xs
each_many g xs i before now most low was more = omega (arith, low, more, ap length was, length-append before (map g (take i xs)), length-map (take i xs) g, length-take-le i xs (omega (arith, low)))

pub flat_more : {X Y : Type 0} (f : X → List Y) (xs : List X) (i : ℕ) (d : X) (before now later : List Y) → i < length xs → now ≡ before ++ flat_map f (take i xs)
    → later ≡ now ++ f (get_or xs i d) → later ≡ before ++ flat_map f (take (i + 1) xs)
flat_more f xs i d before now later low was more =
    more ∙ ap (λ l. l ++ f (get_or xs i d)) was ∙ append_assoc before (flat_map f (take i xs)) (f (get_or xs i d)) ∙ ap (λ l. before ++ l) (sym (flat_map_more f xs i d low))

pub flat_many : {X Y : Type 0} (f : X → List Y) (xs : List X) (i : ℕ) (d : X) (before now : List Y) (most : ℕ) → i < length xs → now ≡ before ++ flat_map f (take i xs)
    → most < length now + length (f (get_or xs i d)) → most < length before + length (flat_map f xs)
flat_many f xs i d before now most low was more =
    omega (
      arith,
      more,
      ap length was,
      length-append before (flat_map f (take i xs)),
      ap length (flat_map_more f xs i d low),
      length-append (flat_map f (take i xs)) (f (get_or xs i d)),
      first_shorter f (i + 1) xs,
    )

-- ---- step after step

pub no_step : (sight : Sight) (steps : List IndexedStep) (walks : List Traversal) → length steps ≡ 0 → flat_map (λ w. steps_from sight (map plain steps) (of_walk w)) walks ≡ map of_walk walks
no_step sight [] walks none = flat_map_single of_walk walks
no_step sight (step ∷ steps) walks none = absurd (omega (arith, none))

-- from a dead end nothing does
pub next_none : (sight : Sight) (step : IndexedStep) (rest : List IndexedStep) (walk : Traversal) (next : List Traversal) → IsReady sight step rest → walk.target < length sight.kinds → is_left_out step.leading walk.target ≡ true
    → next ≡ [] → flat_map (λ x. steps_from sight (map plain rest) (of_walk x)) next ≡ steps_from sight (map plain (step ∷ rest)) (of_walk walk)
next_none sight step rest walk next ready low dead none = ap (flat_map (λ x. steps_from sight (map plain rest) (of_walk x))) none ∙ sym (ready.dead walk low dead)

-- the steps by the first of them
pub steps_split : (sight : Sight) (steps : List IndexedStep) (step : IndexedStep) (walk : Traversal) → 1 ≤ length steps → step ≡ get_or steps 0 step
    → steps_from sight (map plain (step ∷ take (length steps - 1) (drop 1 steps))) (of_walk walk) ≡ steps_from sight (map plain steps) (of_walk walk)
steps_split sight steps step walk some first = ap (λ l. steps_from sight (map plain l) (of_walk walk)) (sym (split_first steps step some first))

-- from the vertices of a set they lead to all bindings
pub all_found : (sight : Sight) (steps : List PathStep) (set : List ℕ) (walks : List Traversal) → 0 < length steps → walks ≡ map start_at (by_number sight set)
    → flat_map (λ w. steps_from sight steps (of_walk w)) walks ≡ bindings sight set steps
all_found sight steps set walks some begun =
    ap (flat_map (λ w. steps_from sight steps (of_walk w))) begun
    ∙ flat_map-map (λ w. steps_from sight steps (of_walk w)) start_at (by_number sight set)
    ∙ flat_map_same (λ v. steps_from sight steps (of_walk (start_at v))) (λ v. steps_from sight steps (alone v)) (λ v. from_start sight steps v some) (by_number sight set)

-- ---- the steps that are ready

-- a step before others
pub ready_first : (sight : Sight) (steps : List IndexedStep) (step : IndexedStep) → 1 ≤ length steps → step ≡ get_or steps 0 step → AreReady sight steps
    → IsReady sight step (take (length steps - 1) (drop 1 steps)) × AreReady sight (take (length steps - 1) (drop 1 steps))
ready_first sight steps step some first ready = subst (AreReady sight) (split_first steps step some first) ready

-- ---- the steps

pub steps_next : (sight : Sight) (steps : List code.PathStep) (step : code.PathStep) (first : IndexedStep) (held all : List IndexedStep) → 1 ≤ length steps → step ≡ get_or steps 0 step
    → plain first ≡ step_of step → map plain held ≡ map step_of (take (length steps - 1) (drop 1 steps)) → all ≡ first ∷ held → map plain all ≡ map step_of steps
steps_next sight steps step first held all some at same are is =
    ap (map plain) is ∙ ap₂ (λ (a : PathStep) (b : List PathStep). a ∷ b) same are ∙ ap (map step_of) (sym (split_first steps step some at))

pub ready_next : (sight : Sight) (first : IndexedStep) (rest held all : List IndexedStep) → rest ≡ held → all ≡ first ∷ held → IsReady sight first rest → AreReady sight held → AreReady sight all
ready_next sight first rest held all same is ready are =
    subst (AreReady sight) (sym is) (subst (λ (l : List IndexedStep). IsReady sight first l) same ready, are)

-- ---- the start of a set

pub begun_within : (sight : Sight) (vertices : List VertexRow) (set : List ℕ) (walks : List Traversal) → length sight.kinds ≡ length vertices → walks ≡ map start_at (by_number sight set)
    → All (λ (w : Traversal). w.target < length vertices) walks
begun_within sight vertices set walks count begun =
    subst (All (λ (w : Traversal). w.target < length vertices)) (sym begun)
    (each (by_number sight set) (numbers_below 0 sight.kinds (among set) (length vertices) (omega (arith, count))))
  where
    each : (vs : List ℕ) → AllByRecursion (λ v. v < length vertices) vs → All (λ (w : Traversal). w.target < length vertices) (map start_at vs)
    each [] low = All-nil (λ (w : Traversal). w.target < length vertices)
    each (v ∷ vs) low = All-cons (λ (w : Traversal). w.target < length vertices) (start_at v) (map start_at vs) low.0 (each vs low.1)
