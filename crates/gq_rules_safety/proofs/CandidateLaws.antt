-- CandidateLaws: the candidates of a typed SELECT are of the types of its aliases.
use Rattle.std.proofs.Common.{◌≡◌, ℕ, zero, suc, ◌+◌, Bool, true, false, List, [], ◌∷◌, map, arith, Option, Some, None, refl, ap, sym, ◌∙◌, subst}
use Rattle.std.specs.Prelude.{◌||◌, ◌==◌, if◌then◌else◌, filter, slice_get}
use Rattle.std.specs.Option.{unwrap_or}
use Rattle.std.specs.List.{list_all, list_any, flat_map}
use Rattle.gq_tree.specs.declared.select.Way.{Way}
use Rattle.gq_tree.specs.declared.select.Way.TheVariants as way
use Rattle.gq_graph.specs.declared.types.EdgeType.{EdgeType}
use Rattle.gq_graph.specs.declared.rows.EdgeRow.{EdgeRow}
use Rattle.gq_graph.specs.declared.rows.Pattern.{Pattern}
use Rattle.gq_graph.specs.declared.rows.Candidate.{Candidate}
use Rattle.gq_graph.specs.Candidates.{Sight, numbered, among, is_target, led_to, candidate_of, candidates_from, by_number, alone, candidates}
use Rattle.gq_rules_typing.specs.Selecting.{Step, Walk, Nowhere, OneHop, Path}
use Rattle.gq_rules_typing.specs.Sorts.{EdgeSort}
use Rattle.gq_rules_typing.specs.Patterns.{PathStep, edge_types, own_way, hop_step, path_step, end_types}
use Rattle.gq_rules_typing.specs.Patterns as patterns
use Rattle.gq_rules_typing.specs.Scopes.{Alias, EdgeAlias}
use Rattle.gq_rules_meaning.specs.Expressions.{World, setting}
use Rattle.gq_rules_meaning.specs.States.{a_vertex}
use Rattle.gq_rules_meaning.specs.States as states
use Rattle.gq_rules_meaning.specs.Paths.{same_way, ways_of, along, step_from, steps_from}
use Rattle.gq_rules_meaning.specs.Paths as paths
use Rattle.gq_rules_meaning.specs.Sources.{From, hop_pattern, candidates_of}
use Rattle.gq_rules_meaning.specs.Fitting.{is_vertex_of, is_row_of, GraphFits, ends_of_type, ends_of_sort}
use Rattle.gq_rules_meaning.specs.StateFits.{AllOf}
use Rattle.gq_rules_meaning.proofs.AnswerLaws.{some_inj, and_ok, both_ok}
use Rattle.gq_rules_meaning.proofs.ValueLaws.{same_number}
use Rattle.gq_rules_safety.specs.Matching.{WordsFit}
use Rattle.gq_rules_safety.proofs.NameLaws.{appended_all}
use Rattle.gq_rules_safety.proofs.OrderLaws.{all_among, target_wider}
use Rattle.gq_rules_safety.proofs.MatchLaws.{CandidateFits, stands}
use Rattle.gq_rules_safety.proofs.SightLaws.{StandsFor}
use Rattle.gq_rules_safety.proofs.WalkLaws.{targets_own, hop_edges_own, hop_own, LastEdges}

-- ---- lists

flat_all : {A B : Type 0} (P : A → Type 0) (Q : B → Type 0) (f : A → List B) (xs : List A) → AllOf P xs → ((x : A) → P x → AllOf Q (f x)) → AllOf Q (flat_map f xs)
flat_all P Q f [] h g = tt
flat_all P Q f (x ∷ xs) h g = appended_all Q (f x) (flat_map f xs) (g x h.0) (flat_all P Q f xs h.1 g)

filter_keeps : {A : Type 0} (P : A → Type 0) (q : A → Bool) (xs : List A) → AllOf P xs → AllOf (λ x. P x × (q x ≡ true)) (filter q xs)
filter_keeps P q [] h = tt
filter_keeps P q (x ∷ xs) h = go (q x) refl (filter_keeps P q xs h.1)
  where
    go : (b : Bool) → q x ≡ b → AllOf (λ x. P x × (q x ≡ true)) (filter q xs) → AllOf (λ x. P x × (q x ≡ true)) (if b then x ∷ filter q xs else filter q xs)
    go true e rest = ((h.0, e), rest)
    go false e rest = rest

any_of : {A : Type 0} (xs : List A) → AllOf (λ x. Unit {0}) xs
any_of [] = tt
any_of (x ∷ xs) = (tt, any_of xs)

numbered_from : {A : Type 0} (all : List A) (n : ℕ) (xs : List A) → ((i : ℕ) (x : A) → slice_get xs i ≡ Some x → slice_get all (n + i) ≡ Some x) → AllOf (λ p. slice_get all p.0 ≡ Some p.1) (numbered n xs)
numbered_from all n [] h = tt
numbered_from all n (x ∷ xs) h =
    (subst (λ m. slice_get all m ≡ Some x) (plain n) (h 0 x refl), numbered_from all (suc n) xs (λ i y e. subst (λ m. slice_get all m ≡ Some y) (next n i) (h (suc i) y e)))
  where
    plain : (n : ℕ) → n + 0 ≡ n
    plain n = omega arith

    next : (n i : ℕ) → n + suc i ≡ suc n + i
    next n i = omega arith

numbered_all : {A : Type 0} (all : List A) → AllOf (λ p. slice_get all p.0 ≡ Some p.1) (numbered 0 all)
numbered_all all = numbered_from all 0 all (λ i x e. subst (λ m. slice_get all m ≡ Some x) (plain i) e)
  where
    plain : (i : ℕ) → i ≡ 0 + i
    plain i = omega arith

member_all : (p : ℕ → Bool) (xs : List ℕ) (v : ℕ) → list_all p xs ≡ true → among xs v ≡ true → p v ≡ true
member_all p [] v h g = cc
member_all p (x ∷ xs) v h g = let w = and_ok (p x) _ h in go (x == v) refl g w.0 (member_all p xs v w.1)
  where
    go : (b : Bool) → (x == v) ≡ b → (b || among xs v) ≡ true → p x ≡ true → (among xs v ≡ true → p v ≡ true) → p v ≡ true
    go true e g k rest = subst (λ z. p z ≡ true) (same_number x v e) k
    go false e g k rest = rest g

maps_meet : {A B C : Type 0} (f : A → C) (g : B → C) (xs : List A) (ys : List B) (i : ℕ) (x : A) → map f xs ≡ map g ys → slice_get xs i ≡ Some x → (y : B) × (slice_get ys i ≡ Some y) × (f x ≡ g y)
maps_meet f g [] ys i x h e = cc
maps_meet f g (a ∷ xs) [] i x h e = cc
maps_meet f g (a ∷ xs) (b ∷ ys) zero x h e = let u : a ≡ x = some_inj e in let v : f a ≡ g b = cc in (b, refl, ap f (sym u) ∙ v)
maps_meet f g (a ∷ xs) (b ∷ ys) (suc i) x h e = let v : map f xs ≡ map g ys = cc in maps_meet f g xs ys i x v e

-- a way of a type is one of the step's
way_among : (t : ℕ) (w : Way) (edges : List (Way × ℕ)) → list_any (λ d. if d.1 == t then same_way d.0 w else false) edges ≡ true → among (map (λ (d : Way × ℕ). d.1) edges) t ≡ true
way_among t w [] h = cc
way_among t w (d ∷ edges) h = go (d.1 == t) h (way_among t w edges)
  where
    go : (b : Bool) → ((if b then same_way d.0 w else false) || list_any (λ d. if d.1 == t then same_way d.0 w else false) edges) ≡ true → (list_any (λ d. if d.1 == t then same_way d.0 w else false) edges ≡ true → among (map (λ (d : Way × ℕ). d.1) edges) t ≡ true) → (b || among (map (λ (d : Way × ℕ). d.1) edges) t) ≡ true
    go true h rest = refl
    go false h rest = rest h

module _ {N : Type 0} (world : World N) (words : WordsFit world) (graph : GraphFits world.graph) (f : From N) (start : List ℕ) (begins : list_all (is_vertex_of world.graph f.source_types) start ≡ true) where
  abbrev view : Sight
  view = world.graph.sight

  sources_all : AllOf (λ v. is_vertex_of world.graph f.source_types v ≡ true) (by_number view start)
  sources_all = each (map (λ v. v.0) (numbered 0 view.kinds))
    where
      each : (vs : List ℕ) → AllOf (λ v. is_vertex_of world.graph f.source_types v ≡ true) (filter (among start) vs)
      each vs = drop_unit (filter (among start) vs) (filter_keeps (λ v. Unit {0}) (among start) vs (any_of vs))
        where
          drop_unit : (vs : List ℕ) → AllOf (λ v. Unit {0} × (among start v ≡ true)) vs → AllOf (λ v. is_vertex_of world.graph f.source_types v ≡ true) vs
          drop_unit [] h = tt
          drop_unit (v ∷ vs) h = (member_all (is_vertex_of world.graph f.source_types) start v begins h.0.1, drop_unit vs h.1)

  -- an edge row of a type
  row_of : (edges : List ℕ) (r t : ℕ) (row : EdgeRow) (type : EdgeType) → slice_get view.edges r ≡ Some row → slice_get view.types t ≡ Some type → (row.kind == unwrap_or type.forward t) ≡ true → among edges t ≡ true → is_row_of world.graph edges r t ≡ true
  row_of edges r t row type a b k m =
      let s = maps_meet ends_of_type ends_of_sort view.types world.graph.sorts.edges t type graph.types b in
      let w : type.forward ≡ s.0.forward = ap (λ e. e.3) s.2 in
      both_ok (among edges t) (of_row (slice_get view.edges r) (slice_get world.graph.sorts.edges t)) m
      (ap (λ o. of_row o (slice_get world.graph.sorts.edges t)) a ∙ ap (of_row (Some row)) s.1 ∙ subst (λ o. (row.kind == unwrap_or o t) ≡ true) w k)
    where
      of_row : Option EdgeRow → Option EdgeSort → Bool
      of_row (Some row) (Some sort) = row.kind == unwrap_or sort.forward t
      of_row _ _ = false

  led_fits : (edges : List ℕ) (v r t w : ℕ) → is_vertex_of world.graph f.source_types v ≡ true → is_row_of world.graph edges r t ≡ true → is_vertex_of world.graph f.target_types w ≡ true → CandidateFits world words f edges (record { source = v; edge = Some r; kind = Some t; target = Some w })
  led_fits edges v r t w a b c = record {
    source = a;
    edge = stands world words f.edge (EdgeAlias edges) (Some (states.EdgeRow r t)) b;
    target = stands world words f.target (Alias f.target_types) (Some (a_vertex f.target_types w)) (refl, c);
    targets = λ u e. subst (λ z. is_vertex_of world.graph f.target_types z ≡ true) (some_inj e) c;
  }

  own_target : (targets : List ℕ) (w : ℕ) → list_all (among world.graph.sorts.own_vertices) targets ≡ true → is_target view.kinds targets w ≡ true → is_vertex_of world.graph targets w ≡ true
  own_target targets w h k = both_ok (is_target view.kinds targets w) _ k (target_wider view.kinds targets world.graph.sorts.own_vertices w (λ t. all_among targets world.graph.sorts.own_vertices t h) k)

  -- ---- without a pattern

  alone_all : (edges : List ℕ) → f.edge ≡ None → f.target ≡ None → AllOf (CandidateFits world words f edges) (candidates view start None)
  alone_all edges e t = each (by_number view start) sources_all
    where
      one : (v : ℕ) → is_vertex_of world.graph f.source_types v ≡ true → CandidateFits world words f edges (alone v)
      one v h = record {
        source = h;
        edge = none_stands f.edge e (EdgeAlias edges);
        target = none_stands f.target t (Alias f.target_types);
        targets = λ u e. absurd (cc e);
      }
        where
          none_stands : (o : Option N) → o ≡ None → (d : _) → StandsFor world words o d None
          none_stands None e d = tt
          none_stands (Some x) e d = absurd (cc e)

      each : (vs : List ℕ) → AllOf (λ v. is_vertex_of world.graph f.source_types v ≡ true) vs → AllOf (CandidateFits world words f edges) (map alone vs)
      each [] h = tt
      each (v ∷ vs) h = (one v h.0, each vs h.1)

  -- ---- a hop

  one_hop : (pattern : Pattern) (v : ℕ) (type : ℕ × EdgeType) (edge : ℕ × EdgeRow) → list_all (among world.graph.sorts.own_vertices) pattern.targets ≡ true → f.target_types ≡ pattern.targets → is_vertex_of world.graph f.source_types v ≡ true
      → slice_get view.types type.0 ≡ Some type.1 → among pattern.edges type.0 ≡ true → slice_get view.edges edge.0 ≡ Some edge.1 → AllOf (CandidateFits world words f pattern.edges) (candidate_of view pattern v type edge)
  one_hop pattern v type edge o t a b c d = go (edge.1.kind == unwrap_or type.1.forward type.0) refl (led_to type.1 edge.1 v)
    where
      reached : Option ℕ → List Candidate
      reached None = []
      reached (Some w) = if is_target view.kinds pattern.targets w then record { source = v; edge = Some edge.0; kind = Some type.0; target = Some w } ∷ [] else []

      ends : (w : ℕ) (q : Bool) → is_target view.kinds pattern.targets w ≡ q → is_row_of world.graph pattern.edges edge.0 type.0 ≡ true → AllOf (CandidateFits world words f pattern.edges) (if q then record { source = v; edge = Some edge.0; kind = Some type.0; target = Some w } ∷ [] else [])
      ends w true e r = (led_fits pattern.edges v edge.0 type.0 w a r (subst (λ ts. is_vertex_of world.graph ts w ≡ true) (sym t) (own_target pattern.targets w o e)), tt)
      ends w false e r = tt

      go : (q : Bool) → (edge.1.kind == unwrap_or type.1.forward type.0) ≡ q → (l : Option ℕ) → AllOf (CandidateFits world words f pattern.edges) (reached (if q then l else None))
      go true e (Some w) = ends w (is_target view.kinds pattern.targets w) refl (row_of pattern.edges edge.0 type.0 edge.1 type.1 d b e c)
      go true e None = tt
      go false e l = tt

  hop_all : (pattern : Pattern) → list_all (among world.graph.sorts.own_vertices) pattern.targets ≡ true → f.target_types ≡ pattern.targets → AllOf (CandidateFits world words f pattern.edges) (candidates view start (Some pattern))
  hop_all pattern o t =
      flat_all (λ v. is_vertex_of world.graph f.source_types v ≡ true) (CandidateFits world words f pattern.edges) (candidates_from view pattern) (by_number view start) sources_all
      (λ v a. flat_all (λ type. (slice_get view.types type.0 ≡ Some type.1) × (among pattern.edges type.0 ≡ true)) (CandidateFits world words f pattern.edges) (λ type. flat_map (candidate_of view pattern v type) (numbered 0 view.edges)) (filter (λ type. among pattern.edges type.0) (numbered 0 view.types))
      (filter_keeps (λ type. slice_get view.types type.0 ≡ Some type.1) (λ type. among pattern.edges type.0) (numbered 0 view.types) (numbered_all view.types))
      (λ type b. flat_all (λ edge. slice_get view.edges edge.0 ≡ Some edge.1) (CandidateFits world words f pattern.edges) (candidate_of view pattern v type) (numbered 0 view.edges) (numbered_all view.edges) (λ edge d. one_hop pattern v type edge o t a b.0 b.1 d)))

  -- ---- paths

  -- all that a step leads to is so
  step_all : (step : PathStep) (c : Candidate) (P : Candidate → Type 0)
      → ((r t w : ℕ) → is_row_of world.graph (map (λ (d : Way × ℕ). d.1) step.edges) r t ≡ true → is_target view.kinds step.targets w ≡ true → P (record { source = c.source; edge = Some r; kind = Some t; target = Some w })) → AllOf P (step_from view step c)
  step_all step c P h =
      flat_all (λ type. slice_get view.types type.0 ≡ Some type.1) P (λ type. flat_map (λ row. flat_map (along view step c (unwrap_or c.target c.source) type row) (ways_of step type.0)) (numbered 0 view.edges)) (numbered 0 view.types) (numbered_all view.types)
      (λ type b. flat_all (λ row. slice_get view.edges row.0 ≡ Some row.1) P (λ row. flat_map (along view step c (unwrap_or c.target c.source) type row) (ways_of step type.0)) (numbered 0 view.edges) (numbered_all view.edges)
      (λ row d. flat_all (λ w. Unit {0} × (list_any (λ d. if d.1 == type.0 then same_way d.0 w else false) step.edges ≡ true)) P (along view step c (unwrap_or c.target c.source) type row) (ways_of step type.0)
      (filter_keeps (λ w. Unit {0}) (λ w. list_any (λ d. if d.1 == type.0 then same_way d.0 w else false) step.edges) (way.Forward ∷ way.Backward ∷ way.Both ∷ []) (any_of (way.Forward ∷ way.Backward ∷ way.Both ∷ [])))
      (λ w k. one type row w b d (way_among type.0 w step.edges k.1))))
    where
      one : (type : ℕ × EdgeType) (row : ℕ × EdgeRow) (w : Way) → slice_get view.types type.0 ≡ Some type.1 → slice_get view.edges row.0 ≡ Some row.1 → among (map (λ (d : Way × ℕ). d.1) step.edges) type.0 ≡ true → AllOf P (along view step c (unwrap_or c.target c.source) type row w)
      one type row w b d m = go (row.1.kind == unwrap_or type.1.forward type.0) refl (paths.led_to w (paths.ends_under type.1 row.1) (unwrap_or c.target c.source))
        where
          reached : Option ℕ → List Candidate
          reached None = []
          reached (Some far) = if is_target view.kinds step.targets far then record { source = c.source; edge = Some row.0; kind = Some type.0; target = Some far } ∷ [] else []

          ends : (far : ℕ) (q : Bool) → is_target view.kinds step.targets far ≡ q → is_row_of world.graph (map (λ (d : Way × ℕ). d.1) step.edges) row.0 type.0 ≡ true → AllOf P (if q then record { source = c.source; edge = Some row.0; kind = Some type.0; target = Some far } ∷ [] else [])
          ends far true e r = (h row.0 type.0 far r e, tt)
          ends far false e r = tt

          go : (q : Bool) → (row.1.kind == unwrap_or type.1.forward type.0) ≡ q → (l : Option ℕ) → AllOf P (reached (if q then l else None))
          go true e (Some far) = ends far (is_target view.kinds step.targets far) refl (row_of (map (λ (d : Way × ℕ). d.1) step.edges) row.0 type.0 row.1 type.1 d b e m)
          go true e None = tt
          go false e l = tt

  path_all : (steps : List (Step N)) (edges : List ℕ) (c : Candidate) → is_vertex_of world.graph f.source_types c.source ≡ true → LastEdges world words (Path steps) edges → f.target_types ≡ end_types (setting world) (Path steps)
      → AllOf (CandidateFits world words f edges) (steps_from view (map (path_step (setting world)) steps) c)
  path_all [] edges c a l t = absurd l
  path_all (step ∷ []) edges c a l t =
      flat_all (CandidateFits world words f edges) (CandidateFits world words f edges) (steps_from view []) (step_from view (path_step (setting world) step) c)
      (step_all (path_step (setting world) step) c (CandidateFits world words f edges)
      (λ r u w k m. led_fits edges c.source r u w a (subst (λ es. is_row_of world.graph es r u ≡ true) l.0 k)
      (subst (λ ts. is_vertex_of world.graph ts w ≡ true) (sym t) (own_target (path_step (setting world) step).targets w (targets_own world words graph (path_step (setting world) step).edges step.targets l.1) m))))
      (λ d k. (k, tt))
  path_all (step ∷ next ∷ rest) edges c a l t =
      flat_all (λ (d : Candidate). is_vertex_of world.graph f.source_types d.source ≡ true) (CandidateFits world words f edges) (steps_from view (map (path_step (setting world)) (next ∷ rest))) (step_from view (path_step (setting world) step) c)
      (step_all (path_step (setting world) step) c (λ d. is_vertex_of world.graph f.source_types d.source ≡ true) (λ r u w k m. a))
      (λ d k. path_all (next ∷ rest) edges d k l t)

  -- ---- all

  pub all_candidates : (walk : Walk N) (edges : List ℕ) → f.edge ≡ patterns.edge_alias walk → f.target ≡ patterns.target_alias walk → f.target_types ≡ end_types (setting world) walk → LastEdges world words walk edges → AllOf (CandidateFits world words f edges) (candidates_of world start walk)
  all_candidates Nowhere edges e t u l = alone_all edges e t
  all_candidates (OneHop h) edges e t u l =
      subst (λ edges. AllOf (CandidateFits world words f edges) (candidates_of world start (OneHop h))) l
      (hop_all (hop_pattern (setting world) h) (targets_own world words graph (hop_step (setting world) h).edges h.targets (hop_own world words (edge_types (setting world) h.edges) (hop_edges_own world words h.edges))) u)
  all_candidates (Path steps) edges e t u l =
      flat_all (λ v. is_vertex_of world.graph f.source_types v ≡ true) (CandidateFits world words f edges) (λ v. steps_from view (map (path_step (setting world)) steps) (alone v)) (by_number view start) sources_all (λ v a. path_all steps edges (alone v) a l u)
