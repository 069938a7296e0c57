-- SelectTypes: the typing rules of FROM and of a whole SELECT, in order of text.
use Rattle.std.specs.Prelude.{ℕ, Bool, true, false, not, ◌&&◌, ◌||◌, if◌then◌else◌, nat_lt, nat_le, length, List, [], ◌∷◌, Option, Some, None, is_some, Ok, Err, slice_get}
use Rattle.gq_tree.specs.Tree.{Tree}
use Rattle.gq_tree.specs.declared.select.Way.{Way}
use Rattle.gq_tree.specs.declared.select.Way.TheVariants as way
use Rattle.gq_tree.specs.Accums.{STRING}
use Rattle.gq_rules_typing.specs.Selecting.{Types, Every, These, Hop, Step, Walk, Nowhere, OneHop, Path, Select}
use Rattle.gq_rules_typing.specs.Sorts.{EdgeSort}
use Rattle.gq_rules_typing.specs.Judging.{Typed, Of, Mismatch, NotAllowedHere, Judged, ◌>>=◌, ◌>>◌, unless, or_fault, each_judged}
use Rattle.gq_rules_typing.specs.Types.{is_numeric}
use Rattle.gq_rules_typing.specs.ExpressionTypes.{Names, typing, condition, number}
use Rattle.gq_rules_typing.specs.Scopes.{Entry, SetVariable, Alias, EdgeAlias, InBlock, InTail, InLimit, Scope, entry, unknown, with_entry, new_name, names_at, vertex_type, edge_type}
use Rattle.gq_rules_typing.specs.Patterns.{edge_types, end_types, target_alias, is_alias}
use Rattle.gq_rules_typing.specs.ActTypes.{typing_acts, typing_post}

-- an alias is a new name; there may be none
abbrev pub with_alias : {N : Type 0} → Option N → Entry → Scope N → Judged (Scope N)
with_alias None e s = Ok s
with_alias (Some x) e s = new_name s x >> Ok (with_entry x e s)

-- the source is a visible set variable, else a vertex type
abbrev pub source_types : {N : Type 0} → Scope N → N → Judged (List ℕ)
source_types s n = of_entry (entry s n)
  where
    of_entry : Option Entry → Judged (List ℕ)
    of_entry (Some (SetVariable types)) = Ok types
    of_entry _ = vertex_type s n >>= λ t. Ok (t ∷ [])

-- named types are of the graph
abbrev pub all_known : {N : Type 0} → (N → Judged ℕ) → Types N → Judged (List ℕ)
all_known known Every = Ok []
all_known known (These ns) = each_judged known ns

-- ---- hops, which are v1 syntax

abbrev pub typing_hop : {N : Type 0} → Scope N → List ℕ → Hop N → Judged (Scope N)
typing_hop s ends h =
    unless NotAllowedHere (not s.with_paths) >> all_known (edge_type s) h.edges >>
    with_alias h.edge_alias (EdgeAlias (edge_types s.setting h.edges)) s >>= λ s₁.
    all_known (vertex_type s₁) h.targets >> with_alias h.target_alias (Alias ends) s₁

-- ---- paths, which are v2 syntax

abbrev pub is_both : Way → Bool
is_both way.Both = true
is_both w = false

-- a directed type has a sign, an undirected one has none
abbrev pub suits_way : EdgeSort → Way → Bool
suits_way e w = if e.directed then not (is_both w) else is_both w

abbrev pub way_known : {N : Type 0} → Scope N → Way × N → Judged ℕ
way_known s d = edge_type s d.1 >>= λ t. or_fault Mismatch (slice_get s.setting.sorts.edges t) >>= λ e. unless Mismatch (suits_way e d.0) >> Ok t

-- only the last step names its edge and its vertex
abbrev pub nameless : {N : Type 0} → Bool → Option N → Judged Bool
nameless true x = Ok true
nameless false x = unless NotAllowedHere (not (is_some x))

abbrev pub is_end : {A : Type 0} → List A → Bool
is_end [] = true
is_end (a ∷ rest) = false

abbrev pub typing_steps : {N : Type 0} → Scope N → List ℕ → List (Step N) → Judged (Scope N)
typing_steps s ends [] = Ok s
typing_steps s ends (step ∷ rest) =
    each_judged (way_known s) step.ways >>= λ edges. nameless (is_end rest) step.edge_alias >> with_alias step.edge_alias (EdgeAlias edges) s >>= λ s₁.
    all_known (vertex_type s₁) step.targets >> nameless (is_end rest) step.target_alias >> with_alias step.target_alias (Alias ends) s₁ >>= λ s₂.
    typing_steps s₂ ends rest

-- ends are the types of the target alias; a path has one to three steps
abbrev pub typing_walk : {N : Type 0} → Scope N → List ℕ → Walk N → Judged (Scope N)
typing_walk s ends Nowhere = Ok s
typing_walk s ends (OneHop h) = typing_hop s ends h
typing_walk s ends (Path steps) = unless NotAllowedHere s.with_paths >> unless Mismatch (nat_lt 0 (length steps) && nat_le (length steps) 3) >> typing_steps s ends steps

-- ---- the whole

-- an optional part
abbrev pub optional : {N A : Type 0} → (Tree N → Judged A) → Option (Tree N) → Judged Bool
optional rule None = Ok true
optional rule (Some t) = rule t >> Ok true

-- a number, a STRING or an average
abbrev pub is_sortable : Typed → Bool
is_sortable (Of STRING) = true
is_sortable x = is_numeric x

abbrev pub sort_key : {N : Type 0} → Names N → Tree N × Bool → Judged Bool
sort_key names key = typing names key.0 >>= λ x. unless Mismatch (is_sortable x)

-- the selected name is the source or the target alias; its types
abbrev pub selected_types : {N : Type 0} → Scope N → Option N → Option N → N → Judged (List ℕ)
selected_types s source target x = unless (unknown s x) (is_alias s.setting.words.same source x || is_alias s.setting.words.same target x) >> of_entry (entry s x)
  where
    of_entry : Option Entry → Judged (List ℕ)
    of_entry (Some (Alias types)) = Ok types
    of_entry _ = Err (unknown s x)

-- a SELECT; the types of the vertices that it gives. Its aliases end with it
abbrev pub typing_select : {N : Type 0} → Scope N → Select N → Judged (List ℕ)
typing_select s q =
    source_types s q.source >>= λ sources.
    with_alias q.alias (Alias sources) s >>= λ s₁.
    typing_walk s₁ (end_types s.setting q.walk) q.walk >>= λ s₂.
    selected_types s₂ q.alias (target_alias q.walk) q.selected >>= λ types.
    optional (condition (names_at s₂ InBlock)) q.filter >>
    typing_acts s₂ false 0 q.accum >>
    typing_post s₂ q.alias (target_alias q.walk) 0 q.post >>
    optional (condition (names_at s₂ (InTail q.selected))) q.having >>
    each_judged (sort_key (names_at s₂ (InTail q.selected))) q.order >>
    optional (number (names_at s₂ InLimit)) q.limit >>
    Ok types
