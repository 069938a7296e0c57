-- Patterns: the edge types that a walk takes, the vertex types that it reaches, and its aliases. Plans have numbers.
use Rattle.std.specs.Prelude.{ℕ, Bool, true, false, List, [], ◌∷◌, map, filter_map, Option, Some, None, slice_get}
use Rattle.std.specs.List.{flat_map}
use Rattle.gq_tree.specs.declared.select.Way.{Way}
use Rattle.gq_tree.specs.declared.select.Way.TheVariants as way
use Rattle.gq_accum_laws.specs.Gather.{distinct}
use Rattle.std.specs.Ordering.{nat_cmp}
use Rattle.gq_rules_typing.specs.Selecting.{Types, Every, These, Hop, Step, Walk, Nowhere, OneHop, Path}
use Rattle.gq_rules_typing.specs.Sorts.{EdgeSort, Sorts}
use Rattle.gq_rules_typing.specs.Words.{Setting}

-- numbers in order, each once
abbrev pub by_number : List ℕ → List ℕ
by_number ns = distinct nat_cmp ns

-- the edge types of a step with their ways, and the vertex types of its end
pub record PathStep : Type 0 where
  pub edges : List (Way × ℕ)
  pub targets : List ℕ

-- ---- named types

-- edge types, or all of the graph
abbrev pub edge_types : {N : Type 0} → Setting N → Types N → List ℕ
edge_types setting Every = setting.sorts.own_edges
edge_types setting (These ns) = filter_map setting.words.edge_type ns

-- the vertex types that an edge type leads to, walked in a way
abbrev pub ends_of : Sorts → Way × ℕ → List ℕ
ends_of sorts d = of_sort d.0 (slice_get sorts.edges d.1)
  where
    of_sort : Way → Option EdgeSort → List ℕ
    of_sort w None = []
    of_sort way.Forward (Some e) = e.to ∷ []
    of_sort way.Backward (Some e) = e.from ∷ []
    of_sort way.Both (Some e) = e.from ∷ e.to ∷ []

-- a directed type is walked from FROM to TO, an undirected one from either end
abbrev pub own_way : Sorts → ℕ → Way
own_way sorts t = of_sort (slice_get sorts.edges t)
  where
    of_directed : Bool → Way
    of_directed true = way.Forward
    of_directed false = way.Both

    of_sort : Option EdgeSort → Way
    of_sort None = way.Both
    of_sort (Some e) = of_directed e.directed

abbrev pub or_all : List ℕ → List ℕ → List ℕ
or_all all [] = all
or_all all (t ∷ ts) = by_number (t ∷ ts)

-- vertex types; if none is named, the far ends, and if there are none, all of the graph
abbrev pub target_types : {N : Type 0} → Setting N → List (Way × ℕ) → Types N → List ℕ
target_types setting edges Every = or_all setting.sorts.own_vertices (flat_map (ends_of setting.sorts) edges)
target_types setting edges (These ns) = by_number (filter_map setting.words.vertex_type ns)

abbrev pub step_with : {N : Type 0} → Setting N → List (Way × ℕ) → Types N → PathStep
step_with setting edges targets = record { edges = edges; targets = target_types setting edges targets }

-- each type of a hop is walked its own way
abbrev pub hop_step : {N : Type 0} → Setting N → Hop N → PathStep
hop_step setting h = step_with setting (map (λ t. (own_way setting.sorts t, t)) (edge_types setting h.edges)) h.targets

abbrev pub way_of : {N : Type 0} → Setting N → Way × N → Option (Way × ℕ)
way_of setting d = with_way (setting.words.edge_type d.1)
  where
    with_way : Option ℕ → Option (Way × ℕ)
    with_way None = None
    with_way (Some t) = Some (d.0, t)

abbrev pub path_step : {N : Type 0} → Setting N → Step N → PathStep
path_step setting s = step_with setting (filter_map (way_of setting) s.ways) s.targets

-- ---- the aliases, which are those of the last step

abbrev pub last_step : {N : Type 0} → List (Step N) → Option (Step N)
last_step [] = None
last_step (s ∷ []) = Some s
last_step (s ∷ t ∷ rest) = last_step (t ∷ rest)

abbrev pub of_last : {N A : Type 0} → (Step N → List A) → Option (Step N) → List A
of_last f None = []
of_last f (Some s) = f s

abbrev pub edge_alias : {N : Type 0} → Walk N → Option N
edge_alias {N = N} Nowhere = None
edge_alias {N = N} (OneHop h) = h.edge_alias
edge_alias {N = N} (Path steps) = of_step (last_step steps)
  where
    of_step : Option (Step N) → Option N
    of_step None = None
    of_step (Some s) = s.edge_alias

abbrev pub target_alias : {N : Type 0} → Walk N → Option N
target_alias {N = N} Nowhere = None
target_alias {N = N} (OneHop h) = h.target_alias
target_alias {N = N} (Path steps) = of_step (last_step steps)
  where
    of_step : Option (Step N) → Option N
    of_step None = None
    of_step (Some s) = s.target_alias

-- the types of the edge alias, and of the target alias
abbrev pub last_edges : {N : Type 0} → Setting N → Walk N → List ℕ
last_edges setting Nowhere = []
last_edges setting (OneHop h) = edge_types setting h.edges
last_edges setting (Path steps) = of_last (λ s. filter_map (λ d. setting.words.edge_type d.1) s.ways) (last_step steps)

abbrev pub end_types : {N : Type 0} → Setting N → Walk N → List ℕ
end_types setting Nowhere = []
end_types setting (OneHop h) = (hop_step setting h).targets
end_types setting (Path steps) = of_last (λ s. (path_step setting s).targets) (last_step steps)

-- whether a name is an alias
abbrev pub is_alias : {N : Type 0} → (N → N → Bool) → Option N → N → Bool
is_alias same None x = false
is_alias same (Some a) x = same a x
