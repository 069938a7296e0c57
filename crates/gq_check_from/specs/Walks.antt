-- Walks: the rules on FROM over byte names, a definition for each function; and where a walk leads if no type is named.
use Rattle.std.specs.Prelude.{ℕ, Bool, true, not, ◌&&◌, ◌||◌, nat_lt, nat_le, length, List, [], ◌∷◌, map, slice_get, Option, Some, None, Ok}
use Rattle.std.specs.List.{flat_map}
use Rattle.std.specs.Str.{bytes_eq}
use Rattle.gq_tree.specs.declared.select.Way.{Way}
use Rattle.gq_rules_typing.specs.Statements.{Bytes}
use Rattle.gq_rules_typing.specs.Selecting.{Types, Hop, Step}
use Rattle.gq_rules_typing.specs.Sorts.{Sorts}
use Rattle.gq_rules_typing.specs.Words.{Setting}
use Rattle.gq_rules_typing.specs.Judging.{Mismatch, UnknownName, Judged, ◌>>=◌, ◌>>◌, unless, or_fault, each_judged}
use Rattle.gq_rules_typing.specs.Scopes.{Alias, EdgeAlias, Scope, vertex_type, edge_type}
use Rattle.gq_rules_typing.specs.Patterns.{ends_of, own_way, or_all, edge_types, is_alias}
use Rattle.gq_scope.specs.Views.{matched, allowed}
use Rattle.gq_rules_typing.specs.SelectTypes.{with_alias, all_known, suits_way, way_known, nameless, typing_steps}

-- ---- where walks lead

-- edge types, each in its default direction
abbrev pub own_ways : Sorts → List ℕ → List (Way × ℕ)
own_ways sorts ts = map (λ t. (own_way sorts t, t)) ts

-- the far ends, if no vertex type is named
abbrev pub open_ends : Setting Bytes → List (Way × ℕ) → List ℕ
open_ends setting edges = or_all setting.sorts.own_vertices (flat_map (ends_of setting.sorts) edges)

abbrev pub last_alias : Option (Step Bytes) → Option Bytes
last_alias None = None
last_alias (Some s) = s.target_alias

-- ---- rules

-- the rule holds, whatever its result
abbrev pub passes : {A : Type 0} → Judged A → Judged Bool
passes j = j >> Ok true

abbrev pub edge_known : Scope Bytes → Bytes → Judged ℕ
edge_known s n = edge_type s n

abbrev pub vertex_known : Scope Bytes → Bytes → Judged ℕ
vertex_known s n = vertex_type s n

abbrev pub known_edges : Scope Bytes → Types Bytes → Judged Bool
known_edges s types = passes (all_known (edge_known s) types)

abbrev pub known_targets : Scope Bytes → Types Bytes → Judged Bool
known_targets s types = passes (all_known (vertex_known s) types)

-- the one vertex type of a name
abbrev pub one_type : Scope Bytes → Bytes → Judged (List ℕ)
one_type s n = vertex_type s n >>= λ t. Ok (t ∷ [])

-- the selected name is an alias
abbrev pub one_alias : Option Bytes → Option Bytes → Bytes → Judged Bool
one_alias source target x = unless (UnknownName x) (is_alias bytes_eq source x || is_alias bytes_eq target x)

-- an edge type that may be walked in this direction
abbrev pub walked : Scope Bytes → Way → ℕ → Judged ℕ
walked s w t = or_fault Mismatch (slice_get s.setting.sorts.edges t) >>= λ e. matched (suits_way e w) >> Ok t

abbrev pub hop_within : Scope Bytes → List ℕ → Hop Bytes → Judged (Scope Bytes)
hop_within s ends h =
    allowed (not s.with_paths) >> known_edges s h.edges >> with_alias h.edge_alias (EdgeAlias (edge_types s.setting h.edges)) s >>= λ s₁.
    known_targets s₁ h.targets >> with_alias h.target_alias (Alias ends) s₁

-- a step, which is the last one or not
abbrev pub step_within : Scope Bytes → List ℕ → Bool → Step Bytes → Judged (Scope Bytes)
step_within s ends is_last step =
    each_judged (way_known s) step.ways >>= λ edges. nameless is_last step.edge_alias >> with_alias step.edge_alias (EdgeAlias edges) s >>= λ s₁.
    known_targets s₁ step.targets >> nameless is_last step.target_alias >> with_alias step.target_alias (Alias ends) s₁

-- one to three steps
abbrev pub is_path : List (Step Bytes) → Bool
is_path steps = nat_lt 0 (length steps) && nat_le (length steps) 3

abbrev pub path_within : Scope Bytes → List ℕ → List (Step Bytes) → Judged (Scope Bytes)
path_within s ends steps = allowed s.with_paths >> matched (is_path steps) >> typing_steps s ends steps
