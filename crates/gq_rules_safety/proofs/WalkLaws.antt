-- WalkLaws: the scope inside a typed SELECT, and the types of its walks.
use Rattle.std.proofs.lemmas.Bool.Decides.{nat_tests}
use Rattle.std.proofs.Common.{◌≡◌, ℕ, suc, arith, Bool, true, false, List, [], ◌∷◌, map, Option, Some, None, Ok, refl, ap, sym, ◌∙◌, subst}
use Rattle.std.specs.Prelude.{not, ◌&&◌, ◌||◌, ◌==◌, filter_map, slice_get, nat_lt, nat_le, length}
use Rattle.std.specs.List.{list_all, flat_map, cons_option}
use Rattle.std.specs.Ordering.{nat_cmp}
use Rattle.gq_tree.specs.declared.select.Way.{Way}
use Rattle.gq_tree.specs.declared.select.Way.TheVariants as way
use Rattle.gq_graph.specs.Candidates.{among}
use Rattle.gq_rules_typing.specs.Selecting.{Types, Every, These, Step, Walk, Nowhere, OneHop, Path}
use Rattle.gq_rules_typing.specs.Sorts.{EdgeSort}
use Rattle.gq_rules_typing.specs.Judging.{Judged, ◌>>=◌, ◌>>◌, unless, or_fault, each_judged, NotAllowedHere, Mismatch}
use Rattle.gq_rules_typing.specs.Scopes.{Entry, Variable, SetVariable, Alias, EdgeAlias, Accumulator, TupleName, Scope, entry, unknown, vertex_type, edge_type}
use Rattle.gq_rules_typing.specs.Patterns.{edge_types, ends_of, own_way, or_all, target_types, way_of, path_step, edge_alias, target_alias}
use Rattle.gq_rules_typing.specs.SelectTypes.{with_alias, source_types, all_known, way_known, suits_way, nameless, typing_steps, typing_walk}
use Rattle.gq_rules_meaning.specs.Graphs.{vertices_of}
use Rattle.gq_rules_meaning.specs.Expressions.{World, setting}
use Rattle.gq_rules_meaning.specs.States.{Thing, SetOf, State, thing_named}
use Rattle.gq_rules_meaning.specs.States as states
use Rattle.gq_rules_meaning.specs.Sources.{source_of}
use Rattle.gq_rules_meaning.specs.Fitting.{is_vertex_of, GraphFits}
use Rattle.gq_rules_meaning.specs.StateFits.{ThingFits}
use Rattle.gq_rules_meaning.proofs.AnswerLaws.{then_ok, after_ok, checked, or_fault_ok, unless_ok, ok_inj, and_ok, both_ok}
use Rattle.gq_rules_meaning.proofs.AfterLaws.{distinct_all, append_all}
use Rattle.gq_rules_safety.specs.Matching.{WordsFit, has_thing, StateIs}
use Rattle.gq_rules_safety.proofs.OrderLaws.{all_pass, same_itself}
use Rattle.gq_rules_safety.proofs.SetLaws.{all_of_types, only_one}
use Rattle.gq_rules_safety.proofs.SightLaws.{adds, alias_known}

some_steps : (n : ℕ) → nat_lt 0 (suc n) ≡ true
some_steps n = grind (arith, nat_tests)

either : (p q : Bool) → q ≡ true → (p || q) ≡ true
either true q h = refl
either false q h = h

-- each of a list is among it
pub all_self : (xs : List ℕ) → list_all (among xs) xs ≡ true
all_self [] = refl
all_self (x ∷ xs) = both_ok (among (x ∷ xs) x) _ (first (x == x) (same_itself x)) (all_pass (among xs) (among (x ∷ xs)) xs (λ t h. either (x == t) (among xs t) h) (all_self xs))
  where
    first : (b : Bool) → b ≡ true → (b || among xs x) ≡ true
    first true h = refl
    first false h = cc

module _ {N : Type 0} (world : World N) (words : WordsFit world) where
  abbrev own : List ℕ
  own = world.graph.sorts.own_vertices

  -- ---- types of the graph

  abbrev pub OwnEdges : List (Way × ℕ) → Type 0
  OwnEdges edges = list_all (λ d. among world.graph.sorts.own_edges d.1) edges ≡ true

  one_own : (e f : ℕ) → (among own e && among own f) ≡ true → (list_all (among own) (e ∷ []) ≡ true) × (list_all (among own) (f ∷ []) ≡ true) × (list_all (among own) (e ∷ f ∷ []) ≡ true)
  one_own e f h = let w = and_ok (among own e) (among own f) h in (both_ok (among own e) true w.0 refl, both_ok (among own f) true w.1 refl, both_ok (among own e) _ w.0 (both_ok (among own f) true w.1 refl))

  ends_own : GraphFits world.graph → (d : Way × ℕ) → among world.graph.sorts.own_edges d.1 ≡ true → list_all (among own) (ends_of world.graph.sorts d) ≡ true
  ends_own g d h = go d.0 (slice_get world.graph.sorts.edges d.1) refl
    where
      of_sort : Way → Option EdgeSort → List ℕ
      of_sort w None = []
      of_sort way.Forward (Some e) = e.to ∷ []
      of_sort way.Backward (Some e) = e.from ∷ []
      of_sort way.Both (Some e) = e.from ∷ e.to ∷ []

      go : (w : Way) (o : Option EdgeSort) → slice_get world.graph.sorts.edges d.1 ≡ o → list_all (among own) (of_sort w o) ≡ true
      go way.Forward None e = refl
      go way.Backward None e = refl
      go way.Both None e = refl
      go way.Forward (Some s) e = (one_own s.from s.to (g.ends d.1 s h e)).1
      go way.Backward (Some s) e = (one_own s.from s.to (g.ends d.1 s h e)).0
      go way.Both (Some s) e = (one_own s.from s.to (g.ends d.1 s h e)).2

  all_ends_own : GraphFits world.graph → (edges : List (Way × ℕ)) → OwnEdges edges → list_all (among own) (flat_map (ends_of world.graph.sorts) edges) ≡ true
  all_ends_own g [] h = refl
  all_ends_own g (d ∷ edges) h = let w = and_ok (among world.graph.sorts.own_edges d.1) _ h in append_all (among own) (ends_of world.graph.sorts d) (flat_map (ends_of world.graph.sorts) edges) (ends_own g d w.0) (all_ends_own g edges w.1)

  named_own : (f : N → Option ℕ) (all : List ℕ) → ((x : N) (t : ℕ) → f x ≡ Some t → among all t ≡ true) → (ns : List N) → list_all (among all) (filter_map f ns) ≡ true
  named_own f all k [] = refl
  named_own f all k (n ∷ ns) = go (f n) refl (named_own f all k ns)
    where
      go : (o : Option ℕ) → f n ≡ o → list_all (among all) (filter_map f ns) ≡ true → list_all (among all) (cons_option o (filter_map f ns)) ≡ true
      go None e rest = rest
      go (Some t) e rest = both_ok (among all t) _ (k n t e) rest

  pub targets_own : GraphFits world.graph → (edges : List (Way × ℕ)) (ts : Types N) → OwnEdges edges → list_all (among own) (target_types (setting world) edges ts) ≡ true
  targets_own g edges (These ns) h = distinct_all (among own) nat_cmp (filter_map world.words.vertex_type ns) (named_own world.words.vertex_type own words.vertex_type ns)
  targets_own g edges Every h = go (flat_map (ends_of world.graph.sorts) edges) (all_ends_own g edges h)
    where
      go : (ends : List ℕ) → list_all (among own) ends ≡ true → list_all (among own) (or_all own ends) ≡ true
      go [] k = all_self own
      go (t ∷ ts) k = distinct_all (among own) nat_cmp (t ∷ ts) k

  pub hop_edges_own : (ts : Types N) → list_all (among world.graph.sorts.own_edges) (edge_types (setting world) ts) ≡ true
  hop_edges_own Every = all_self world.graph.sorts.own_edges
  hop_edges_own (These ns) = named_own world.words.edge_type world.graph.sorts.own_edges words.edge_type ns

  pub hop_own : (ts : List ℕ) → list_all (among world.graph.sorts.own_edges) ts ≡ true → OwnEdges (map (λ t. (own_way world.graph.sorts t, t)) ts)
  hop_own [] h = refl
  hop_own (t ∷ ts) h = let w = and_ok (among world.graph.sorts.own_edges t) _ h in both_ok (among world.graph.sorts.own_edges t) _ w.0 (hop_own ts w.1)

  -- the ways of a step, if all its types are known
  pub ways_known : (s : Scope N) → s.setting ≡ setting world → (ways : List (Way × N)) (edges : List ℕ) → each_judged (way_known s) ways ≡ Ok edges → (map (λ (d : Way × ℕ). d.1) (filter_map (way_of (setting world)) ways) ≡ edges) × OwnEdges (filter_map (way_of (setting world)) ways)
  ways_known s z [] edges e = (ok_inj e, refl)
  ways_known s z (d ∷ ways) edges e =
      let t = then_ok (way_known s d) _ edges e in let u = then_ok (each_judged (way_known s) ways) _ edges t.2 in
      let n = then_ok (edge_type s d.1) _ t.0 t.1 in let o = or_fault_ok (unknown s d.1) (s.setting.words.edge_type d.1) n.0 n.1 in
      let k = then_ok (or_fault Mismatch (slice_get s.setting.sorts.edges n.0)) _ t.0 n.2 in let m : n.0 ≡ t.0 = ok_inj (checked Mismatch (suits_way k.0 d.0) (Ok n.0) t.0 k.2).1 in
      let w : world.words.edge_type d.1 ≡ Some n.0 = subst (λ z. z.words.edge_type d.1 ≡ Some n.0) z o in
      let r = ways_known s z ways u.0 u.1 in
      let c : way_of (setting world) d ≡ Some (d.0, n.0) = ap with_way w in (
        ap (λ o. map (λ (d : Way × ℕ). d.1) (cons_option o (filter_map (way_of (setting world)) ways))) c ∙ ap (λ l. n.0 ∷ l) r.0 ∙ ap (λ t. t ∷ u.0) m ∙ ok_inj u.2,
        subst (λ o. OwnEdges (cons_option o (filter_map (way_of (setting world)) ways))) (sym c) (both_ok (among world.graph.sorts.own_edges n.0) _ (words.edge_type d.1 n.0 w) r.1),
      )
    where
      with_way : Option ℕ → Option (Way × ℕ)
      with_way None = None
      with_way (Some t) = Some (d.0, t)

  -- ---- the source

  not_set : (s : Scope N) (state : State N) (n : N) (e : Entry) → StateIs world s state → entry s n ≡ Some e → ((ts : List ℕ) → e ≡ SetVariable ts → ⊥) → (ts vs : List ℕ) → thing_named world state.names n ≡ Some (SetOf ts vs) → ⊥
  not_set s state n (SetVariable us) h d k ts vs t = k us refl
  not_set s state n (Variable b) h d k ts vs t = subst (ThingFits world (Variable b)) t (h.fits.named n (Variable b) d)
  not_set s state n (Alias us) h d k ts vs t = subst (ThingFits world (Alias us)) t (h.fits.named n (Alias us) d)
  not_set s state n (EdgeAlias us) h d k ts vs t = subst (ThingFits world (EdgeAlias us)) t (h.fits.named n (EdgeAlias us) d)
  not_set s state n (Accumulator j a) h d k ts vs t = let u = sym (h.alone n (ap has_thing d)) ∙ t in absurd (cc u)
  not_set s state n TupleName h d k ts vs t = let u = sym (h.alone n (ap has_thing d)) ∙ t in absurd (cc u)

  pub source_fits : (s : Scope N) (state : State N) (n : N) (sources : List ℕ) → StateIs world s state → source_types s n ≡ Ok sources → ((source_of world state.names n).0 ≡ sources) × (list_all (is_vertex_of world.graph sources) (source_of world state.names n).1 ≡ true)
  source_fits s state n sources h e = go (entry s n) refl e
    where
      of_entry : Option Entry → Judged (List ℕ)
      of_entry (Some (SetVariable types)) = Ok types
      of_entry _ = vertex_type s n >>= λ t. Ok (t ∷ [])

      of_type : Option ℕ → List ℕ × List ℕ
      of_type None = ([], [])
      of_type (Some t) = (t ∷ [], vertices_of world.graph (t ∷ []))

      of_thing : Option Thing → List ℕ × List ℕ
      of_thing (Some (SetOf types vs)) = (types, vs)
      of_thing _ = of_type (world.words.vertex_type n)

      set : (ts : List ℕ) → ts ≡ sources → (o : Option Thing) → ThingFits world (SetVariable ts) o → ((of_thing o).0 ≡ sources) × (list_all (is_vertex_of world.graph sources) (of_thing o).1 ≡ true)
      set ts u (Some (SetOf us vs)) k = (k.0 ∙ u, subst (λ ts. list_all (is_vertex_of world.graph ts) vs ≡ true) u k.1)
      set ts u (Some (states.Variable c v)) k = absurd k
      set ts u (Some (states.EdgeRow r t)) k = absurd k
      set ts u (Some (states.Member us vs v)) k = absurd k
      set ts u None k = absurd k

      typed : (vertex_type s n >>= λ t. Ok (t ∷ [])) ≡ Ok sources → (o : Option Thing) → ((ts vs : List ℕ) → o ≡ Some (SetOf ts vs) → ⊥) → ((of_thing o).0 ≡ sources) × (list_all (is_vertex_of world.graph sources) (of_thing o).1 ≡ true)
      typed e o k =
          let t = then_ok (vertex_type s n) _ sources e in let w = or_fault_ok (unknown s n) (s.setting.words.vertex_type n) t.0 t.1 in
          let d : world.words.vertex_type n ≡ Some t.0 = subst (λ z. z.words.vertex_type n ≡ Some t.0) h.fits.setting w in
          let u = ok_inj t.2 in
          subst (λ p. (p.0 ≡ sources) × (list_all (is_vertex_of world.graph sources) p.1 ≡ true)) (sym (plain o k ∙ ap of_type d)) (u, subst (λ ts. list_all (is_vertex_of world.graph ts) (vertices_of world.graph (t.0 ∷ [])) ≡ true) u (all_of_types world (t.0 ∷ []) (only_one world t.0 (words.vertex_type n t.0 d))))
        where
          plain : (o : Option Thing) → ((ts vs : List ℕ) → o ≡ Some (SetOf ts vs) → ⊥) → of_thing o ≡ of_type (world.words.vertex_type n)
          plain (Some (SetOf us vs)) k = absurd (k us vs refl)
          plain (Some (states.Variable c v)) k = refl
          plain (Some (states.EdgeRow r t)) k = refl
          plain (Some (states.Member us vs v)) k = refl
          plain None k = refl

      nothing : has_thing (entry s n) ≡ false → (ts vs : List ℕ) → thing_named world state.names n ≡ Some (SetOf ts vs) → ⊥
      nothing k ts vs t = let u = sym (h.alone n k) ∙ t in absurd (cc u)

      go : (o : Option Entry) → entry s n ≡ o → of_entry o ≡ Ok sources → ((of_thing (thing_named world state.names n)).0 ≡ sources) × (list_all (is_vertex_of world.graph sources) (of_thing (thing_named world state.names n)).1 ≡ true)
      go (Some (SetVariable ts)) d e = set ts (ok_inj e) (thing_named world state.names n) (h.fits.named n (SetVariable ts) d)
      go (Some (Variable b)) d e = typed e (thing_named world state.names n) (not_set s state n (Variable b) h d (λ ts c. absurd (cc c)))
      go (Some (Alias us)) d e = typed e (thing_named world state.names n) (not_set s state n (Alias us) h d (λ ts c. absurd (cc c)))
      go (Some (EdgeAlias us)) d e = typed e (thing_named world state.names n) (not_set s state n (EdgeAlias us) h d (λ ts c. absurd (cc c)))
      go (Some (Accumulator k a)) d e = typed e (thing_named world state.names n) (nothing (ap has_thing d))
      go (Some TupleName) d e = typed e (thing_named world state.names n) (nothing (ap has_thing d))
      go None d e = typed e (thing_named world state.names n) (nothing (ap has_thing d))

  -- ---- the scope inside

  -- the edge types of the last step
  abbrev pub LastEdges : Walk N → List ℕ → Type 0
  LastEdges Nowhere edges = Unit {0}
  LastEdges (OneHop h) edges = edge_types (setting world) h.edges ≡ edges
  LastEdges (Path []) edges = ⊥
  LastEdges (Path (step ∷ [])) edges = (map (λ (d : Way × ℕ). d.1) (path_step (setting world) step).edges ≡ edges) × OwnEdges (path_step (setting world) step).edges
  LastEdges (Path (step ∷ next ∷ rest)) edges = LastEdges (Path (next ∷ rest)) edges

  nameless_none : (o : Option N) (q : Bool) → nameless false o ≡ Ok q → o ≡ None
  nameless_none None q e = refl
  nameless_none (Some x) q e = cc

  steps_known : (steps : List (Step N)) (ends : List ℕ) (s t : Scope N) → s.setting ≡ setting world → nat_lt 0 (length steps) ≡ true → typing_steps s ends steps ≡ Ok t
      → (edges : List ℕ) × (adds (target_alias (Path steps)) (Alias ends) (adds (edge_alias (Path steps)) (EdgeAlias edges) s) ≡ t) × LastEdges (Path steps) edges
  steps_known [] ends s t z l e = cc
  steps_known (step ∷ []) ends s t z l e =
      let es = then_ok (each_judged (way_known s) step.ways) _ t e in
      let s₁ = then_ok (nameless true step.edge_alias >> with_alias step.edge_alias (EdgeAlias es.0) s) _ t es.2 in
      let a = after_ok (nameless true step.edge_alias) (with_alias step.edge_alias (EdgeAlias es.0) s) s₁.0 s₁.1 in
      let s₂ = then_ok (all_known (vertex_type s₁.0) step.targets >> nameless true step.target_alias >> with_alias step.target_alias (Alias ends) s₁.0) _ t s₁.2 in
      let b = after_ok (all_known (vertex_type s₁.0) step.targets >> nameless true step.target_alias) (with_alias step.target_alias (Alias ends) s₁.0) s₂.0 s₂.1 in
      let k = ways_known s z step.ways es.0 es.1 in
      (es.0, ap (adds step.target_alias (Alias ends)) (alias_known step.edge_alias (EdgeAlias es.0) s s₁.0 a.1).0 ∙ (alias_known step.target_alias (Alias ends) s₁.0 s₂.0 b.1).0 ∙ ok_inj s₂.2, k)
  steps_known (step ∷ next ∷ rest) ends s t z l e =
      let es = then_ok (each_judged (way_known s) step.ways) _ t e in
      let s₁ = then_ok (nameless false step.edge_alias >> with_alias step.edge_alias (EdgeAlias es.0) s) _ t es.2 in
      let a = after_ok (nameless false step.edge_alias) (with_alias step.edge_alias (EdgeAlias es.0) s) s₁.0 s₁.1 in
      let s₂ = then_ok (all_known (vertex_type s₁.0) step.targets >> nameless false step.target_alias >> with_alias step.target_alias (Alias ends) s₁.0) _ t s₁.2 in
      let b = after_ok (all_known (vertex_type s₁.0) step.targets >> nameless false step.target_alias) (with_alias step.target_alias (Alias ends) s₁.0) s₂.0 s₂.1 in
      let c = after_ok (all_known (vertex_type s₁.0) step.targets) (nameless false step.target_alias) b.0.0 b.0.1 in
      let u : s ≡ s₁.0 = ap (λ o. adds o (EdgeAlias es.0) s) (sym (nameless_none step.edge_alias a.0.0 a.0.1)) ∙ (alias_known step.edge_alias (EdgeAlias es.0) s s₁.0 a.1).0 in
      let v : s₁.0 ≡ s₂.0 = ap (λ o. adds o (Alias ends) s₁.0) (sym (nameless_none step.target_alias b.0.0 c.1)) ∙ (alias_known step.target_alias (Alias ends) s₁.0 s₂.0 b.1).0 in
      steps_known (next ∷ rest) ends s t z (some_steps (length rest)) (subst (λ s. typing_steps s ends (next ∷ rest) ≡ Ok t) (sym (u ∙ v)) s₂.2)

  pub walk_known : (walk : Walk N) (ends : List ℕ) (s t : Scope N) → s.setting ≡ setting world → typing_walk s ends walk ≡ Ok t
      → (edges : List ℕ) × (adds (target_alias walk) (Alias ends) (adds (edge_alias walk) (EdgeAlias edges) s) ≡ t) × LastEdges walk edges
  walk_known Nowhere ends s t z e = ([], ok_inj e, tt)
  walk_known (OneHop h) ends s t z e =
      let s₁ = then_ok (unless NotAllowedHere (not s.with_paths) >> all_known (edge_type s) h.edges >> with_alias h.edge_alias (EdgeAlias (edge_types s.setting h.edges)) s) _ t e in
      let a = after_ok (unless NotAllowedHere (not s.with_paths) >> all_known (edge_type s) h.edges) (with_alias h.edge_alias (EdgeAlias (edge_types s.setting h.edges)) s) s₁.0 s₁.1 in
      let b = after_ok (all_known (vertex_type s₁.0) h.targets) (with_alias h.target_alias (Alias ends) s₁.0) t s₁.2 in
      (edge_types s.setting h.edges, ap (adds h.target_alias (Alias ends)) (alias_known h.edge_alias (EdgeAlias (edge_types s.setting h.edges)) s s₁.0 a.1).0 ∙ (alias_known h.target_alias (Alias ends) s₁.0 t b.1).0, ap (λ z. edge_types z h.edges) (sym z))
  walk_known (Path steps) ends s t z e =
      let a = after_ok (unless NotAllowedHere s.with_paths >> unless Mismatch (nat_lt 0 (length steps) && nat_le (length steps) 3)) (typing_steps s ends steps) t e in
      let b = after_ok (unless NotAllowedHere s.with_paths) (unless Mismatch (nat_lt 0 (length steps) && nat_le (length steps) 3)) a.0.0 a.0.1 in
      steps_known steps ends s t z (and_ok (nat_lt 0 (length steps)) _ (unless_ok Mismatch (nat_lt 0 (length steps) && nat_le (length steps) 3) a.0.0 b.1)).0 a.1
