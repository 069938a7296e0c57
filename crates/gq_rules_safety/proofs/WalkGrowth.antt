-- WalkGrowth: a walk leads to the same types if there are more of them, and so a SELECT gives the same.
use Rattle.std.proofs.Common.{◌≡◌, ℕ, Bool, true, false, List, [], ◌∷◌, ◌++◌, Option, Some, None, Ok, Err, refl, ap, ap₂, sym, ◌∙◌, subst, eq-eqb}
use Rattle.std.specs.Prelude.{not, ◌&&◌, ◌||◌, ◌==◌, if◌then◌else◌, map, filter_map, slice_get, length, nat_lt, nat_le}
use Rattle.std.specs.List.{flat_map, cons_option}
use mathlib.Core.Path.{fun_ext}
use Rattle.gq_tree.specs.Tree.{Tree}
use Rattle.gq_tree.specs.declared.select.Way.{Way}
use Rattle.gq_tree.specs.declared.select.Way.TheVariants as way
use Rattle.gq_graph.specs.Candidates.{among}
use Rattle.gq_rules_typing.specs.Selecting.{Types, Every, These, Hop, Step, Walk, Nowhere, OneHop, Path, Select}
use Rattle.gq_rules_typing.specs.Sorts.{Fields, VertexSort, EdgeSort, Sorts}
use Rattle.gq_rules_typing.specs.Words.{Words, Setting}
use Rattle.gq_rules_typing.specs.Judging.{Mismatch, NotAllowedHere, Judged, ◌>>=◌, ◌>>◌, unless, or_fault, each_judged}
use Rattle.gq_rules_typing.specs.ExpressionTypes.{Names, typing, condition, number}
use Rattle.gq_rules_typing.specs.Scopes.{Entry, Alias, EdgeAlias, InBlock, InTail, InLimit, Place, Scope, with_entry, new_name, names_at, vertex_type, edge_type, unknown}
use Rattle.gq_rules_typing.specs.Patterns.{edge_types, ends_of, own_way, target_types, or_all, step_with, hop_step, way_of, path_step, last_step, of_last, end_types, target_alias}
use Rattle.gq_rules_typing.specs.ActTypes.{typing_acts, typing_post}
use Rattle.gq_rules_typing.specs.SelectTypes.{with_alias, source_types, all_known, typing_hop, suits_way, way_known, nameless, is_end, typing_steps, typing_walk, optional, is_sortable, sort_key, selected_types, typing_select}
use Rattle.gq_rules_safety.proofs.Leads.{Leads, Keeps, kept, kept_as, known, kept_if, kept_then, kept_on, leads_and, each_kept}
use Rattle.gq_rules_safety.proofs.ScopeGrowth.{scoped, Scopes, scopes_ok, scopes_then}
use Rattle.gq_rules_safety.proofs.ExpressionGrowth.{SortsGrow, at₁, at₂, wider, tree_kept, number_kept}
use Rattle.gq_rules_safety.proofs.ActGrowth.{condition_at, acts_kept, post_kept}

-- a rule on an optional part
pub optional_kept : {N A : Type 0} (f g : Tree N → Judged A) → ((t : Tree N) → Keeps (f t) (g t)) → (o : Option (Tree N)) → Keeps (optional f o) (optional g o)
optional_kept f g h None = kept (Ok true)
optional_kept f g h (Some t) = leads_and (f t) (g t) (Ok true) (Ok true) (h t) (kept (Ok true))

-- ---- the types that edges lead to

abbrev way_from : Option EdgeSort → Way
way_from o = of_sort o
  where
    of_directed : Bool → Way
    of_directed true = way.Forward
    of_directed false = way.Both

    of_sort : Option EdgeSort → Way
    of_sort None = way.Both
    of_sort (Some e) = of_directed e.directed

abbrev ends_from : Way → Option EdgeSort → List ℕ
ends_from w None = []
ends_from way.Forward (Some e) = e.to ∷ []
ends_from way.Backward (Some e) = e.from ∷ []
ends_from way.Both (Some e) = e.from ∷ e.to ∷ []

abbrev way_with : {N : Type 0} → Way × N → Option ℕ → Option (Way × ℕ)
way_with d None = None
way_with d (Some t) = Some (d.0, t)

-- all types are of the graph
abbrev AllOwn : Sorts → List ℕ → Type 0
AllOwn a [] = Unit {0}
AllOwn a (t ∷ ts) = (among a.own_edges t ≡ true) × AllOwn a ts

abbrev OwnWays : Sorts → List (Way × ℕ) → Type 0
OwnWays a [] = Unit {0}
OwnWays a (d ∷ ds) = (among a.own_edges d.1 ≡ true) × OwnWays a ds

or_true : (q : Bool) → (q || true) ≡ true
or_true true = refl
or_true false = refl

all_own : (a : Sorts) (ts : List ℕ) → ((t : ℕ) → among ts t ≡ true → among a.own_edges t ≡ true) → AllOwn a ts
all_own a [] h = tt
all_own a (t ∷ ts) h = (h t (ap (λ q. q || among ts t) (eq-eqb t t refl)), all_own a ts (λ u e. h u (ap (λ q. (t == u) || q) e ∙ or_true (t == u))))

map_own : (a : Sorts) (w : ℕ → Way) (ts : List ℕ) → AllOwn a ts → OwnWays a (map {B = Way × ℕ} (λ t. (w t, t)) ts)
map_own a w [] o = tt
map_own a w (t ∷ ts) o = (o.0, map_own a w ts o.1)

module _ {N : Type 0} (words : Words N) (a : Sorts) (vertices : List VertexSort) (edges : List EdgeSort) (h : SortsGrow words a vertices edges) (tuples : List (N × Fields)) where
  abbrev b : Sorts
  b = wider a vertices edges

  abbrev first : Setting N
  first = at₁ words a vertices edges h tuples

  abbrev second : Setting N
  second = at₂ words a vertices edges h tuples

  way_same : (t : ℕ) → among a.own_edges t ≡ true → own_way a t ≡ own_way b t
  way_same t own = ap way_from (sym (h.own t own))

  ways_same : (ts : List ℕ) → AllOwn a ts → map {B = Way × ℕ} (λ t. (own_way a t, t)) ts ≡ map {B = Way × ℕ} (λ t. (own_way b t, t)) ts
  ways_same [] o = refl
  ways_same (t ∷ ts) o = ap₂ (λ (w : Way) (ds : List (Way × ℕ)). (w, t) ∷ ds) (way_same t o.0) (ways_same ts o.1)

  ends_same : (w : Way) (t : ℕ) → among a.own_edges t ≡ true → ends_of a (w, t) ≡ ends_of b (w, t)
  ends_same w t own = ap (ends_from w) (sym (h.own t own))

  far_same : (ds : List (Way × ℕ)) → OwnWays a ds → flat_map (ends_of a) ds ≡ flat_map (ends_of b) ds
  far_same [] o = refl
  far_same (d ∷ ds) o = ap₂ (λ xs ys. xs ++ ys) (ends_same d.0 d.1 o.0) (far_same ds o.1)

  targets_same : (ds : List (Way × ℕ)) (types : Types N) → OwnWays a ds → target_types first ds types ≡ target_types second ds types
  targets_same ds Every o = ap (or_all a.own_vertices) (far_same ds o)
  targets_same ds (These ns) o = refl

  words_own : (ns : List N) → AllOwn a (filter_map words.edge_type ns)
  words_own [] = tt
  words_own (x ∷ ns) = go (words.edge_type x) refl (words_own ns)
    where
      go : (o : Option ℕ) → words.edge_type x ≡ o → AllOwn a (filter_map words.edge_type ns) → AllOwn a (cons_option o (filter_map words.edge_type ns))
      go None e rest = rest
      go (Some t) e rest = (h.word x t e, rest)

  types_own : (types : Types N) → AllOwn a (edge_types first types)
  types_own Every = all_own a a.own_edges (λ t e. e)
  types_own (These ns) = words_own ns

  ways_own : (ways : List (Way × N)) → OwnWays a (filter_map (way_of first) ways)
  ways_own [] = tt
  ways_own (d ∷ ds) = go (words.edge_type d.1) refl (ways_own ds)
    where
      go : (o : Option ℕ) → words.edge_type d.1 ≡ o → OwnWays a (filter_map (way_of first) ds) → OwnWays a (cons_option (way_with d o) (filter_map (way_of first) ds))
      go None e rest = rest
      go (Some t) e rest = (h.word d.1 t e, rest)

  hop_same : (p : Hop N) → (hop_step first p).targets ≡ (hop_step second p).targets
  hop_same p =
      let own = types_own p.edges in
      targets_same (map {B = Way × ℕ} (λ t. (own_way a t, t)) (edge_types first p.edges)) p.targets (map_own a (own_way a) (edge_types first p.edges) own)
      ∙ ap (λ ds. target_types second ds p.targets) (ways_same (edge_types first p.edges) own)

  path_same : (p : Step N) → (path_step first p).targets ≡ (path_step second p).targets
  path_same p = targets_same (filter_map (way_of first) p.ways) p.targets (ways_own p.ways)

  pub ends_stay : (walk : Walk N) → end_types first walk ≡ end_types second walk
  ends_stay Nowhere = refl
  ends_stay (OneHop p) = hop_same p
  ends_stay (Path steps) = ap (λ (f : Step N → List ℕ). of_last f (last_step steps)) (fun_ext path_same)

  module _ (paths : Bool) where
    abbrev s : List (N × Entry) → Scope N
    s names = scoped first names paths

    abbrev t : List (N × Entry) → Scope N
    t names = scoped second names paths

    abbrev pub Grown : Scope N → Scope N → Type 0
    Grown = Scopes first second paths

    -- ---- walks

    alias_grown : (o : Option N) (e : Entry) (names : List (N × Entry)) → Leads Grown (with_alias o e (s names)) (with_alias o e (t names))
    alias_grown None e names = scopes_ok first second paths names
    alias_grown (Some x) e names = leads_and (new_name (s names) x) (new_name (t names) x) (Ok (with_entry x e (s names))) (Ok (with_entry x e (t names))) (kept (new_name (s names) x)) (scopes_ok first second paths ((x, e) ∷ names))

    hop_grown : (ends : List ℕ) (p : Hop N) (names : List (N × Entry)) → Leads Grown (typing_hop (s names) ends p) (typing_hop (t names) ends p)
    hop_grown ends p names =
        scopes_then first second paths
        (unless NotAllowedHere (not paths) >> all_known (edge_type (s names)) p.edges >> with_alias p.edge_alias (EdgeAlias (edge_types first p.edges)) (s names))
        (unless NotAllowedHere (not paths) >> all_known (edge_type (t names)) p.edges >> with_alias p.edge_alias (EdgeAlias (edge_types second p.edges)) (t names)) _ _
        (leads_and (unless NotAllowedHere (not paths) >> all_known (edge_type (s names)) p.edges) (unless NotAllowedHere (not paths) >> all_known (edge_type (t names)) p.edges) (with_alias p.edge_alias (EdgeAlias (edge_types first p.edges)) (s names)) (with_alias p.edge_alias (EdgeAlias (edge_types second p.edges)) (t names))
        (kept (unless NotAllowedHere (not paths) >> all_known (edge_type (s names)) p.edges)) (alias_grown p.edge_alias (EdgeAlias (edge_types first p.edges)) names))
        (λ ns. leads_and (all_known (vertex_type (s ns)) p.targets) (all_known (vertex_type (t ns)) p.targets) (with_alias p.target_alias (Alias ends) (s ns)) (with_alias p.target_alias (Alias ends) (t ns)) (kept (all_known (vertex_type (s ns)) p.targets)) (alias_grown p.target_alias (Alias ends) ns))

    way_kept : (names : List (N × Entry)) (d : Way × N) → Keeps (way_known (s names) d) (way_known (t names) d)
    way_kept names d =
        kept_if (edge_type (s names) d.1) (edge_type (t names) d.1) _ _ (kept (edge_type (s names) d.1))
        (λ y e. kept_on (or_fault Mismatch (slice_get a.edges y)) (or_fault Mismatch (slice_get edges y)) _ (kept_as (or_fault Mismatch (slice_get a.edges y)) (or_fault Mismatch (slice_get edges y)) (ap (or_fault Mismatch) (sym (h.own y (h.word d.1 y (known (unknown (s names) d.1) (words.edge_type d.1) y e)))))))

    steps_grown : (ends : List ℕ) (steps : List (Step N)) (names : List (N × Entry)) → Leads Grown (typing_steps (s names) ends steps) (typing_steps (t names) ends steps)
    steps_grown ends [] names = scopes_ok first second paths names
    steps_grown ends (p ∷ rest) names =
        kept_then (each_judged (way_known (s names)) p.ways) (each_judged (way_known (t names)) p.ways) _ _ (each_kept (way_known (s names)) (way_known (t names)) (way_kept names) p.ways)
        (λ es. scopes_then first second paths (nameless (is_end rest) p.edge_alias >> with_alias p.edge_alias (EdgeAlias es) (s names)) (nameless (is_end rest) p.edge_alias >> with_alias p.edge_alias (EdgeAlias es) (t names)) _ _
        (leads_and (nameless (is_end rest) p.edge_alias) (nameless (is_end rest) p.edge_alias) (with_alias p.edge_alias (EdgeAlias es) (s names)) (with_alias p.edge_alias (EdgeAlias es) (t names)) (kept (nameless (is_end rest) p.edge_alias)) (alias_grown p.edge_alias (EdgeAlias es) names))
        (λ ns. scopes_then first second paths
        (all_known (vertex_type (s ns)) p.targets >> nameless (is_end rest) p.target_alias >> with_alias p.target_alias (Alias ends) (s ns))
        (all_known (vertex_type (t ns)) p.targets >> nameless (is_end rest) p.target_alias >> with_alias p.target_alias (Alias ends) (t ns)) _ _
        (leads_and (all_known (vertex_type (s ns)) p.targets >> nameless (is_end rest) p.target_alias) (all_known (vertex_type (t ns)) p.targets >> nameless (is_end rest) p.target_alias) (with_alias p.target_alias (Alias ends) (s ns)) (with_alias p.target_alias (Alias ends) (t ns))
        (kept (all_known (vertex_type (s ns)) p.targets >> nameless (is_end rest) p.target_alias)) (alias_grown p.target_alias (Alias ends) ns))
        (λ ms. steps_grown ends rest ms)))

    walk_grown : (ends : List ℕ) (walk : Walk N) (names : List (N × Entry)) → Leads Grown (typing_walk (s names) ends walk) (typing_walk (t names) ends walk)
    walk_grown ends Nowhere names = scopes_ok first second paths names
    walk_grown ends (OneHop p) names = hop_grown ends p names
    walk_grown ends (Path steps) names =
        leads_and (unless NotAllowedHere paths >> unless Mismatch (nat_lt 0 (length steps) && nat_le (length steps) 3)) (unless NotAllowedHere paths >> unless Mismatch (nat_lt 0 (length steps) && nat_le (length steps) 3)) (typing_steps (s names) ends steps) (typing_steps (t names) ends steps)
        (kept (unless NotAllowedHere paths >> unless Mismatch (nat_lt 0 (length steps) && nat_le (length steps) 3))) (steps_grown ends steps names)

    -- ---- SELECT

    key_kept : (names : List (N × Entry)) (place : Place N) (key : Tree N × Bool) → Keeps (sort_key (names_at (s names) place) key) (sort_key (names_at (t names) place) key)
    key_kept names place key = kept_on (typing (names_at (s names) place) key.0) (typing (names_at (t names) place) key.0) _ (tree_kept words a vertices edges h tuples (names_at (s names) place) key.0)

    number_at : (names : List (N × Entry)) (place : Place N) (e : Tree N) → Keeps (number (names_at (s names) place) e) (number (names_at (t names) place) e)
    number_at names place e = number_kept words a vertices edges h tuples (names_at (s names) place) e

    conditions_kept : (names : List (N × Entry)) (place : Place N) (o : Option (Tree N)) → Keeps (optional (condition (names_at (s names) place)) o) (optional (condition (names_at (t names) place)) o)
    conditions_kept names place o = optional_kept (condition (names_at (s names) place)) (condition (names_at (t names) place)) (λ e. condition_at words a vertices edges h tuples names paths place e) o

    -- the rules after FROM
    abbrev behind : Select N → Scope N → Judged ℕ
    behind q z = optional (condition (names_at z InBlock)) q.filter >> typing_acts z false 0 q.accum >> typing_post z q.alias (target_alias q.walk) 0 q.post

    abbrev ordered : Select N → Scope N → Judged Bool
    ordered q z = behind q z >> optional (condition (names_at z (InTail q.selected))) q.having >> each_judged (sort_key (names_at z (InTail q.selected))) q.order >> optional (number (names_at z InLimit)) q.limit

    behind_kept : (q : Select N) (ns : List (N × Entry)) → Keeps (behind q (s ns)) (behind q (t ns))
    behind_kept q ns =
        leads_and (optional (condition (names_at (s ns) InBlock)) q.filter >> typing_acts (s ns) false 0 q.accum) (optional (condition (names_at (t ns) InBlock)) q.filter >> typing_acts (t ns) false 0 q.accum) _ _
        (leads_and (optional (condition (names_at (s ns) InBlock)) q.filter) (optional (condition (names_at (t ns) InBlock)) q.filter) _ _ (conditions_kept ns InBlock q.filter) (acts_kept words a vertices edges h tuples ns paths false 0 q.accum))
        (post_kept words a vertices edges h tuples ns paths q.alias (target_alias q.walk) 0 q.post)

    ordered_kept : (q : Select N) (ns : List (N × Entry)) → Keeps (ordered q (s ns)) (ordered q (t ns))
    ordered_kept q ns =
        leads_and (behind q (s ns) >> optional (condition (names_at (s ns) (InTail q.selected))) q.having >> each_judged (sort_key (names_at (s ns) (InTail q.selected))) q.order) (behind q (t ns) >> optional (condition (names_at (t ns) (InTail q.selected))) q.having >> each_judged (sort_key (names_at (t ns) (InTail q.selected))) q.order) _ _
        (leads_and (behind q (s ns) >> optional (condition (names_at (s ns) (InTail q.selected))) q.having) (behind q (t ns) >> optional (condition (names_at (t ns) (InTail q.selected))) q.having) _ _
        (leads_and (behind q (s ns)) (behind q (t ns)) _ _ (behind_kept q ns) (conditions_kept ns (InTail q.selected) q.having))
        (each_kept (sort_key (names_at (s ns) (InTail q.selected))) (sort_key (names_at (t ns) (InTail q.selected))) (key_kept ns (InTail q.selected)) q.order))
        (optional_kept (number (names_at (s ns) InLimit)) (number (names_at (t ns) InLimit)) (number_at ns InLimit) q.limit)

    pub select_kept : (names : List (N × Entry)) (q : Select N) → Keeps (typing_select (s names) q) (typing_select (t names) q)
    select_kept names q =
        kept_then (source_types (s names) q.source) (source_types (t names) q.source) _ _ (kept (source_types (s names) q.source))
        (λ sources. scopes_then first second paths (with_alias q.alias (Alias sources) (s names)) (with_alias q.alias (Alias sources) (t names)) _ _ (alias_grown q.alias (Alias sources) names)
        (λ ns. scopes_then first second paths (typing_walk (s ns) (end_types first q.walk) q.walk) (typing_walk (t ns) (end_types second q.walk) q.walk) _ _
        (subst (λ ends. Leads Grown (typing_walk (s ns) (end_types first q.walk) q.walk) (typing_walk (t ns) ends q.walk)) (ends_stay q.walk) (walk_grown (end_types first q.walk) q.walk ns))
        (λ ms. kept_then (selected_types (s ms) q.alias (target_alias q.walk) q.selected) (selected_types (t ms) q.alias (target_alias q.walk) q.selected) _ _ (kept (selected_types (s ms) q.alias (target_alias q.walk) q.selected))
        (λ types. leads_and (ordered q (s ms)) (ordered q (t ms)) (Ok types) (Ok types) (ordered_kept q ms) (kept (Ok types))))))
