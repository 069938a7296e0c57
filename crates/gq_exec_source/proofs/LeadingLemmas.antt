-- LeadingLemmas: if no row leads from a vertex to one from which a path may continue, no path continues from it.
use Rattle.std.specs.Prelude.{min, replicate}
use Rattle.std.proofs.Common.{ℕ, zero, suc, ◌+◌, ◌*◌, ◌/◌, ◌<◌, ◌≤◌, ◌≡◌, Bool, true, false, cond, not, List, [], ◌∷◌, ◌==◌, ◌&&◌, ◌||◌, nat_lt, length, map, get_or, take, Some, None, refl, ap, ap₂, sym, subst, ◌∙◌, arith}
use Rattle.std.specs.List.{All, filter, flat_map, list_any, slice_get}
use Rattle.std.specs.Option.{is_some}
use Rattle.std.proofs.Math.Bool.{beq}
use Rattle.std.proofs.lemmas.Bool.{true≢false}
use Rattle.std.proofs.lemmas.Bool.Decides.{nat_tests}
use Rattle.std.proofs.lemmas.List.{length-replicate}
use Rattle.std.proofs.lemmas.List.Elements.{All-nil, All-cons, All-head, All-tail, filter_passes}
use Rattle.std.proofs.lemmas.List.Folds.{flat_map-map, list_any_at, list_any_more}
use Rattle.gq_graph.specs.declared.types.EdgeType.{EdgeType}
use Rattle.gq_graph.specs.declared.rows.EdgeRow.{EdgeRow}
use Rattle.gq_graph.specs.declared.rows.Candidate.{Candidate}
use Rattle.gq_graph.specs.Candidates.{Sight, is_target}
use Rattle.gq_graph.specs.Edges.{edge_at, no_edge}
use Rattle.gq_index.specs.declared.walks.Traversal.{Traversal}
use Rattle.gq_index.specs.Places.{below}
use Rattle.gq_index.specs.Segments.{of_walk}
use Rattle.gq_index.specs.Sights.{type_at}
use Rattle.gq_index.specs.Walks.{base_of}
use Rattle.gq_index.proofs.KeptLemmas.{AreEnds}
use Rattle.gq_index.proofs.WalkLemmas.{All-flat_map, all_below, flat_map_filter}
use Rattle.gq_rules_typing.specs.Way.{Way}
use Rattle.gq_rules_typing.specs.Way.TheVariants as way
use Rattle.gq_rules_typing.specs.Patterns.{PathStep}
use Rattle.gq_rules_meaning.specs.Paths.{ends_under, same_way, steps_from, ways_of}
use Rattle.gq_exec_source.specs.declared.directions.Directions.{Directions}
use Rattle.gq_exec_source.specs.declared.indexed.IndexedStep.{IndexedStep}
use Rattle.gq_exec_source.specs.declared.indexed.Leading.{Leading}
use Rattle.gq_exec_source.specs.Directions.{goes_so, walks_kind, leads_from, AreDirections}
use Rattle.gq_exec_source.specs.Hops.{on_along, taken_from}
use Rattle.gq_exec_source.specs.Indexed.{plain, is_dead, leads_on, AreDead, AreReady, AreTargets}
use Rattle.gq_exec_source.specs.Marks.{is_marked}
use Rattle.gq_exec_source.specs.Ways.{walk_between, walks_in, row_walks, walks_along, type_walks, step_walks}
use Rattle.gq_exec_source.proofs.HopLemmas.{target_low}
use Rattle.gq_exec_source.proofs.ListLemmas.{flat_map_same}
use Rattle.gq_exec_source.proofs.RowLemmas.{steps_alike}
use Rattle.gq_exec_source.proofs.WayLemmas.{went_step}

-- ---- truth values

or_last : (a b : Bool) → (a || b) ≡ false → b ≡ false
or_last false b h = h
or_last true b h = absurd (cc h)

pub and_last : (a b : Bool) → (a && b) ≡ true → b ≡ true
and_last true b h = h
and_last false b h = absurd (cc h)

not_true : (b : Bool) → not b ≡ true → b ≡ false
not_true false h = refl
not_true true h = absurd (cc h)

or_three : (a b c : Bool) → ((a || b) || c) ≡ (a || (b || c))
or_three true b c = refl
or_three false b c = refl

turned : (a b : ℕ) → (a == b) ≡ true → (b == a) ≡ true
turned a b h = grind (arith, nat_tests)

equal : (a b : ℕ) → (a == b) ≡ true → a ≡ b
equal a b h = grind (arith, nat_tests)

-- ---- marks, one item after another

-- of the items so far, and of one more
pub any_so_far : {X : Type 0} (p : X → Bool) (xs : List X) (i : ℕ) (d : X) (old now later : Bool) → i < length xs → now ≡ (old || list_any p (take i xs)) → later ≡ (now || p (get_or xs i d))
    → later ≡ (old || list_any p (take (i + 1) xs))
any_so_far p xs i d old now later low was is =
    is ∙ ap (λ b. b || p (get_or xs i d)) was ∙ or_three old (list_any p (take i xs)) (p (get_or xs i d)) ∙ ap (λ b. old || b) (sym (list_any_more p xs i d low))

-- of the vertices so far, and of one more
pub low_more : (p : ℕ → Bool) (words new : List ℕ) (n : ℕ) → ((v : ℕ) → is_marked words v ≡ (nat_lt v n && p v)) → p n ≡ true → ((v : ℕ) → is_marked new v ≡ (v == n || is_marked words v))
    → (v : ℕ) → is_marked new v ≡ (nat_lt v (n + 1) && p v)
low_more p words new n was holds is v = is v ∙ by (v == n) refl
  where
    by : (b : Bool) → (v == n) ≡ b → (b || is_marked words v) ≡ (nat_lt v (n + 1) && p v)
    by true e = let same : v ≡ n = equal v n e in sym (ap (λ b. b && p v) (under same) ∙ ap p same ∙ holds)
      where
        under : v ≡ n → nat_lt v (n + 1) ≡ true
        under s = grind (arith, nat_tests)
    by false e = was v ∙ ap (λ b. b && p v) (as_before e)
      where
        as_before : (v == n) ≡ false → nat_lt v n ≡ nat_lt v (n + 1)
        as_before f = grind (arith, nat_tests)

pub low_same : (p : ℕ → Bool) (words : List ℕ) (n : ℕ) → ((v : ℕ) → is_marked words v ≡ (nat_lt v n && p v)) → p n ≡ false → (v : ℕ) → is_marked words v ≡ (nat_lt v (n + 1) && p v)
low_same p words n was out v = was v ∙ by (v == n) refl
  where
    none : (b c : Bool) → (b && false) ≡ (c && false)
    none true true = refl
    none true false = refl
    none false true = refl
    none false false = refl

    by : (b : Bool) → (v == n) ≡ b → (nat_lt v n && p v) ≡ (nat_lt v (n + 1) && p v)
    by true e =
        let fails : p v ≡ false = ap p (equal v n e) ∙ out
        in ap (λ b. nat_lt v n && b) fails ∙ none (nat_lt v n) (nat_lt v (n + 1)) ∙ ap (λ b. nat_lt v (n + 1) && b) (sym fails)
    by false e = ap (λ b. b && p v) (as_before e)
      where
        as_before : (v == n) ≡ false → nat_lt v n ≡ nat_lt v (n + 1)
        as_before f = grind (arith, nat_tests)

pub low_all : (p : ℕ → Bool) (words : List ℕ) (n i : ℕ) → n ≤ i → ((v : ℕ) → p v ≡ true → v < n) → ((v : ℕ) → is_marked words v ≡ (nat_lt v i && p v)) → (v : ℕ) → is_marked words v ≡ p v
low_all p words n i all low was v = was v ∙ by (p v) refl
  where
    under : v < n → nat_lt v i ≡ true
    under h = let less : v < i = omega (arith, h, all) in grind (arith, nat_tests)

    by : (b : Bool) → p v ≡ b → (nat_lt v i && p v) ≡ p v
    by true e = ap (λ b. b && p v) (under (low v e))
    by false e = ap (λ b. nat_lt v i && b) e ∙ none (nat_lt v i) ∙ sym e
      where
        none : (c : Bool) → (c && false) ≡ false
        none true = refl
        none false = refl

-- ---- the types of a step's rows

any_stays : {X : Type 0} (p q : X → Bool) → ((x : X) → p x ≡ true → q x ≡ true) → (xs : List X) → list_any p xs ≡ true → list_any q xs ≡ true
any_stays p q stays [] h = absurd (cc h)
any_stays p q stays (x ∷ xs) h = by (p x) refl h (any_stays p q stays xs)
  where
    past : (a b : Bool) → b ≡ true → (a || b) ≡ true
    past true b e = refl
    past false b e = e

    by : (b : Bool) → p x ≡ b → (b || list_any p xs) ≡ true → (list_any p xs ≡ true → list_any q xs ≡ true) → (q x || list_any q xs) ≡ true
    by true e k later = ap (λ b. b || list_any q xs) (stays x e)
    by false e k later = past (q x) (list_any q xs) (later k)

same_ways : (a b : Way) → same_way a b ≡ true → a ≡ b
same_ways way.Forward way.Forward h = refl
same_ways way.Forward way.Backward h = absurd (cc h)
same_ways way.Forward way.Both h = absurd (cc h)
same_ways way.Backward way.Forward h = absurd (cc h)
same_ways way.Backward way.Backward h = refl
same_ways way.Backward way.Both h = absurd (cc h)
same_ways way.Both way.Forward h = absurd (cc h)
same_ways way.Both way.Backward h = absurd (cc h)
same_ways way.Both way.Both h = refl

-- whether a step has this type with this way
abbrev has_way : PathStep → ℕ → Way → Bool
has_way step e w = list_any (λ d. cond (d.1 == e) (same_way d.0 w) false) step.edges

there : (types : List EdgeType) (e : ℕ) → e < length types → slice_get types e ≡ Some (type_at types e)
there [] e low = absurd (omega (arith, low))
there (t ∷ types) zero low = refl
there (t ∷ types) (suc e) low = there types e (omega (arith, low))

kind_walked : (types : List EdgeType) (step : PathStep) (e : ℕ) (w : Way) (back : Bool) → e < length types → has_way step e w ≡ true → goes_so w (beq (is_some (type_at types e).forward) back) ≡ true
    → list_any (walks_kind types back (min (base_of (type_at types e) e) (length types))) step.edges ≡ true
kind_walked types step e w back low has goes = any_stays (λ d. cond (d.1 == e) (same_way d.0 w) false) (walks_kind types back k) each step.edges has
  where
    k : ℕ
    k = min (base_of (type_at types e) e) (length types)

    itself : (n : ℕ) → (n == n) ≡ true
    itself n = grind (arith, nat_tests)

    here : walks_kind types back k (w, e) ≡ true
    here = rw (there types e low, goes, walks_kind) (itself k)

    each : (d : Way × ℕ) → cond (d.1 == e) (same_way d.0 w) false ≡ true → walks_kind types back k d ≡ true
    each d h = by (d.1 == e) refl h
      where
        by : (b : Bool) → (d.1 == e) ≡ b → cond b (same_way d.0 w) false ≡ true → walks_kind types back k d ≡ true
        by false q p = absurd (cc p)
        by true q p = ap₂ (λ (a : Way) (n : ℕ). walks_kind types back k (a, n)) (same_ways d.0 w p) (equal d.1 e q) ∙ here

-- ---- the walks from a vertex lead to nothing that is marked

-- a walk that starts from a vertex leads to nothing that is good
abbrev LeadsNowhere : (ℕ → Bool) → ℕ → Traversal → Type 0
LeadsNowhere good v walk = (walk.source == v) ≡ true → good walk.target ≡ false

module _ (good : ℕ → Bool) (out back : Bool) (v e r from to : ℕ)
    (none : (((out && good to) && (v == from)) || ((back && good from) && (v == to))) ≡ false) where
  first_out : (o g s b : Bool) → (((o && g) && s) || b) ≡ false → o ≡ true → s ≡ true → g ≡ false
  first_out o false s b h p q = refl
  first_out true true true b h p q = absurd (cc h)
  first_out false true s b h p q = absurd (cc p)
  first_out true true false b h p q = absurd (cc q)

  then_back : (a o g s : Bool) → (a || ((o && g) && s)) ≡ false → o ≡ true → s ≡ true → g ≡ false
  then_back a o false s h p q = refl
  then_back true o true s h p q = absurd (cc h)
  then_back false true true true h p q = absurd (cc h)
  then_back false false true s h p q = absurd (cc p)
  then_back false true true false h p q = absurd (cc q)

  out_none : out ≡ true → LeadsNowhere good v (walk_between e r from to)
  out_none is = λ at. first_out out (good to) (v == from) ((back && good from) && (v == to)) none is (turned from v at)

  back_none : back ≡ true → LeadsNowhere good v (walk_between e r to from)
  back_none is = λ at. then_back ((out && good to) && (v == from)) back (good from) (v == to) none is (turned to v at)

  one : (walk : Traversal) → LeadsNowhere good v walk → All (LeadsNowhere good v) (walk ∷ [])
  one walk is = All-cons (LeadsNowhere good v) walk [] is (All-nil (LeadsNowhere good v))

  both : (walk other : Traversal) (b : Bool) → LeadsNowhere good v walk → LeadsNowhere good v other → All (LeadsNowhere good v) (cond b (walk ∷ []) (walk ∷ other ∷ []))
  both walk other true is also = one walk is
  both walk other false is also = All-cons (LeadsNowhere good v) walk (other ∷ []) is (one other also)

  in_none : (x : Bool) (w : Way) → (goes_so w (beq x false) ≡ true → out ≡ true) → (goes_so w (beq x true) ≡ true → back ≡ true)
      → All (LeadsNowhere good v) (walks_in w e r (cond x (to, from) (from, to)))
  in_none false way.Forward o b = one (walk_between e r from to) (out_none (o refl))
  in_none true way.Forward o b = one (walk_between e r to from) (back_none (b refl))
  in_none false way.Backward o b = one (walk_between e r to from) (back_none (b refl))
  in_none true way.Backward o b = one (walk_between e r from to) (out_none (o refl))
  in_none false way.Both o b = both (walk_between e r from to) (walk_between e r to from) (from == to) (out_none (o refl)) (back_none (b refl))
  in_none true way.Both o b = both (walk_between e r to from) (walk_between e r from to) (to == from) (back_none (b refl)) (out_none (o refl))

module _ (step : PathStep) (types : List EdgeType) (d : Directions) (are : AreDirections step types d) (marks : List ℕ) (v : ℕ) where
  row_none : (e r : ℕ) (row : EdgeRow) (w : Way) → e < length types → has_way step e w ≡ true → leads_from d marks row v ≡ false → All (LeadsNowhere (is_marked marks) v) (row_walks (type_at types e) e r row w)
  row_none e r row w low has none = by (row.kind == base_of t e) refl
    where
      t : EdgeType
      t = type_at types e

      min_low : (a b : ℕ) → min a b ≤ b
      min_low a b = grind (arith, nat_tests)

      at : row.kind ≡ base_of t e → min row.kind d.types ≡ min (base_of t e) (length types)
      at same = ap₂ min same are.count

      by : (b : Bool) → (row.kind == base_of t e) ≡ b → All (LeadsNowhere (is_marked marks) v) (cond b (walks_in w e r (ends_under t row)) [])
      by false is = All-nil (LeadsNowhere (is_marked marks) v)
      by true is =
          let same : row.kind ≡ base_of t e = equal row.kind (base_of t e) is in
          in_none (is_marked marks) (is_marked d.out (min row.kind d.types)) (is_marked d.back (min row.kind d.types)) v e r row.from row.to none (is_some t.forward) w
          (λ h. ap (is_marked d.out) (at same) ∙ are.out (min (base_of t e) (length types)) (min_low (base_of t e) (length types)) ∙ kind_walked types step e w false low has h)
          (λ h. ap (is_marked d.back) (at same) ∙ are.back (min (base_of t e) (length types)) (min_low (base_of t e) (length types)) ∙ kind_walked types step e w true low has h)

  each_none : (rows : List EdgeRow) (r : ℕ) → list_any (λ row. leads_from d marks row v) rows ≡ false → r < length rows → leads_from d marks (edge_at rows r) v ≡ false
  each_none rows r none low = by (leads_from d marks (edge_at rows r) v) refl
    where
      by : (b : Bool) → leads_from d marks (edge_at rows r) v ≡ b → b ≡ false
      by false is = refl
      by true is = absurd (true≢false (sym (list_any_at (λ row. leads_from d marks row v) rows r no_edge low is) ∙ none))

  rows_none : (rows : List EdgeRow) → list_any (λ row. leads_from d marks row v) rows ≡ false → All (LeadsNowhere (is_marked marks) v) (step_walks step types rows)
  unfolding step_walks type_walks
  rows_none rows none =
      let N : Traversal → Type 0 = LeadsNowhere (is_marked marks) v in
      All-flat_map N (λ (e : ℕ). e < length types) (λ e. type_walks (ways_of step e) (type_at types e) e rows)
      (λ e low. All-flat_map N (λ (r : ℕ). r < length rows) (λ r. walks_along (ways_of step e) (type_at types e) e r (edge_at rows r))
      (λ r at. All-flat_map N (λ w. has_way step e w ≡ true) (row_walks (type_at types e) e r (edge_at rows r))
      (λ w has. row_none e r (edge_at rows r) w low has (each_none rows r none at)) (ways_of step e) (filter_passes (has_way step e) (way.Forward ∷ way.Backward ∷ way.Both ∷ [])))
      (below (length rows)) (all_below (length rows))) (below (length types)) (all_below (length types))

-- ---- if all walks that start from a vertex lead nowhere, no path continues from it

pub ready_dead : (sight : Sight) (steps : List IndexedStep) → AreReady sight steps → (walk : Traversal) → walk.target < length sight.kinds → is_dead steps walk.target ≡ true
    → steps_from sight (map plain steps) (of_walk walk) ≡ []
ready_dead sight [] ready walk low dead = absurd (cc dead)
ready_dead sight (step ∷ steps) ready walk low dead = ready.0.dead walk low dead

module _ (sight : Sight) (step : PathStep) (rest : List IndexedStep) (ready : AreReady sight rest) (walk : Traversal) where
  abbrev ahead : Traversal → List Candidate
  ahead x = steps_from sight (map plain rest) (of_walk (on_along walk x))

  abbrev fits : Traversal → Bool
  fits x = is_target sight.kinds step.targets x.target

  abbrev on : Traversal → Bool
  on x = leads_on sight.kinds step.targets rest x.target

  -- the walks that lead on give all bindings
  pub led_all : flat_map (λ x. steps_from sight (map plain rest) (of_walk (on_along walk x))) (filter (λ (x : Traversal). leads_on sight.kinds step.targets rest x.target) (taken_from walk.target (step_walks step sight.types sight.edges)))
      ≡ steps_from sight (step ∷ map plain rest) (of_walk walk)
  led_all =
      flat_map_filter ahead on here
      ∙ flat_map_same (λ x. cond (on x) (ahead x) []) (λ x. cond (fits x) (ahead x) []) (λ x. by x (is_dead rest x.target) refl (fits x) refl) here
      ∙ sym (flat_map_filter ahead fits here)
      ∙ sym (flat_map-map (steps_from sight (map plain rest)) (λ x. of_walk (on_along walk x)) (filter fits here))
      ∙ ap (flat_map (steps_from sight (map plain rest))) (went_step sight step walk)
    where
      here : List Traversal
      here = taken_from walk.target (step_walks step sight.types sight.edges)

      by : (x : Traversal) (b : Bool) → is_dead rest x.target ≡ b → (t : Bool) → fits x ≡ t → cond (not b && t) (ahead x) [] ≡ cond t (ahead x) []
      by x false dead t is = refl
      by x true dead false is = refl
      by x true dead true is = sym (ready_dead sight rest ready (on_along walk x) (target_low sight.kinds step.targets x.target is) dead)

  none_on : (walks : List Traversal) → All (LeadsNowhere (leads_on sight.kinds step.targets rest) walk.target) walks → filter on (taken_from walk.target walks) ≡ []
  none_on [] all = refl
  none_on (x ∷ walks) all = by (x.source == walk.target) refl (none_on walks (All-tail (LeadsNowhere (leads_on sight.kinds step.targets rest) walk.target) x walks all))
    where
      others : List Traversal
      others = taken_from walk.target walks

      by : (b : Bool) → (x.source == walk.target) ≡ b → filter on others ≡ [] → filter on (cond b (x ∷ others) others) ≡ []
      by false is less = less
      by true is less = ap (λ b. cond b (x ∷ filter on others) (filter on others)) (All-head (LeadsNowhere (leads_on sight.kinds step.targets rest) walk.target) x walks all is) ∙ less

  nothing_on : All (LeadsNowhere (leads_on sight.kinds step.targets rest) walk.target) (step_walks step sight.types sight.edges) → steps_from sight (step ∷ map plain rest) (of_walk walk) ≡ []
  nothing_on all = sym led_all ∙ ap (flat_map ahead) (none_on (step_walks step sight.types sight.edges) all)

-- if all vertices are marked from which a row leads to a target from which a path may continue, none continues from
-- others
pub none_other : (sight : Sight) (step : PathStep) (d : Directions) (ends : List EdgeRow) (targets none words : List ℕ) (n : ℕ) → n ≡ length sight.kinds
    → AreEnds ends sight.edges → AreDirections step sight.types d → none ≡ replicate (n / 64 + 1) 0
    → ((v : ℕ) → v < length none * 64 → is_marked words v ≡ (is_marked none v || list_any (λ row. leads_from d targets row v) ends))
    → (rest : List IndexedStep) → AreReady sight rest → AreTargets sight.kinds step.targets rest targets
    → (walk : Traversal) → walk.target < length sight.kinds → is_marked words walk.target ≡ false → steps_from sight (step ∷ map plain rest) (of_walk walk) ≡ []
none_other sight step d ends targets none words n count have are zeros marks rest ready reached walk low dead =
    let v : ℕ = walk.target in
    let room : v < length none * 64 = omega (arith, low, count, ap length zeros, length-replicate {A = ℕ} (n / 64 + 1) 0) in
    let none_leads : list_any (λ row. leads_from d targets row v) ends ≡ false =
    or_last (is_marked none v) (list_any (λ row. leads_from d targets row v) ends) (sym (marks v room) ∙ dead) in
    let all : All (LeadsNowhere (is_marked targets) v) (step_walks step sight.types sight.edges) =
    subst (All (LeadsNowhere (is_marked targets) v)) (steps_alike step sight.types ends sight.edges have) (rows_none step sight.types d are targets v ends none_leads) in
    nothing_on sight step rest ready walk (λ k x h at. sym (reached (get_or (step_walks step sight.types sight.edges) k x).target) ∙ all k x h at)

pub left_out : (sight : Sight) (steps : List PathStep) (known : Leading)
    → ((walk : Traversal) → walk.target < length sight.kinds → is_marked known.from walk.target ≡ false → steps_from sight steps (of_walk walk) ≡ []) → AreDead sight (Some known) steps
left_out sight steps known none = λ walk low dead. none walk low (not_true (is_marked known.from walk.target) dead)

-- a vertex that leads on exists
pub leading_low : (kinds targets : List ℕ) (rest : List IndexedStep) (v : ℕ) → leads_on kinds targets rest v ≡ true → v < length kinds
leading_low kinds targets rest v is = target_low kinds targets v (and_last (not (is_dead rest v)) (is_target kinds targets v) is)
