-- Queries: the queries of a session by name, the effects of CREATE QUERY and INSTALL QUERY, and why they are refused.
use Rattle.std.specs.Prelude.{ℕ, Bool, true, false, not, ◌&&◌, ◌||◌, if◌then◌else◌, List, [], ◌∷◌, ◌++◌, ◌<◌, length, map, find, position, slice_set, Option, Some, None, Result, Ok, Err, bytes_eq}
use Rattle.std.specs.List.{list_any}
use Rattle.std.specs.Option.{ForSome}
use Rattle.gq_graph.specs.Catalog.{Schema}
use Rattle.gq_tree.specs.declared.query.QueryTree.{QueryTree}
use Rattle.gq_tree.specs.declared.query.Installed.{Installed}
use Rattle.gq_tree.specs.declared.query.Installed.TheVariants as which
use Rattle.gq_diagnostics.specs.declared.refusal.Refusal.{Refusal}
use Rattle.gq_diagnostics.specs.declared.refusal.Refusal.TheVariants as refusal
use Rattle.gq_rules_meaning.specs.Sessions.{good_modes}
use Rattle.gq_query_run.specs.Kept.{Kept}
use Rattle.gq_query_run.specs.Judging.{IsTyped, graph_for, graph_refusal}

-- ---- names

abbrev pub is_named : List ℕ → Kept → Bool
is_named name query = bytes_eq query.name name

-- whether there is a query with the name
abbrev pub has_query : List Kept → List ℕ → Bool
has_query queries name = list_any (is_named name) queries

-- it is typed for its graph, which exists if it has one
pub record QueryFits (schema : Schema) (query : Kept) : Type 0 where
  pub there : ForSome query.graph (λ graph. graph < length schema.graphs)
  pub typed : IsTyped schema query.graph query.tree

-- ---- CREATE QUERY

-- the graph of a query that isn't refused
abbrev pub graph_found : Result (Option ℕ) Refusal → Option ℕ
graph_found (Ok graph) = graph
graph_found (Err due) = None

abbrev pub graph_fixed : Schema → Option ℕ → QueryTree → Option ℕ
graph_fixed schema in_use tree = graph_found (graph_for schema in_use tree.graph)

-- a query that isn't installed
abbrev pub created : List ℕ → QueryTree → Option ℕ → Kept
created name tree graph = record { name = name; tree = tree; graph = graph; installed = false }

abbrev pub put_at : List Kept → Kept → Option ℕ → List Kept
put_at queries query (Some n) = slice_set queries n query
put_at queries query None = queries ++ query ∷ []

-- the query replaces the one with its name, or is appended
abbrev pub with_query : List Kept → Kept → List Kept
with_query queries query = put_at queries query (position (is_named query.name) queries)

-- its modes are valid, its name is new unless it may replace another one, its graph exists, and no rule fails
abbrev pub create_refusal : Schema → Option ℕ → List Kept → Bool → List ℕ → QueryTree → Option Refusal
create_refusal schema in_use queries replace name tree =
    if not (good_modes tree.modes) then Some refusal.BadOption
    else (if not replace && has_query queries name then Some (refusal.NameTaken name)
    else graph_refusal schema in_use tree)

abbrev pub unless_refused : Option Refusal → List Kept → Result (List Kept) Refusal
unless_refused None queries = Ok queries
unless_refused (Some due) queries = Err due

abbrev pub query_created : Schema → Option ℕ → List Kept → Bool → List ℕ → QueryTree → Result (List Kept) Refusal
query_created schema in_use queries replace name tree =
    unless_refused (create_refusal schema in_use queries replace name tree) (with_query queries (created name tree (graph_fixed schema in_use tree)))

-- ---- INSTALL QUERY

abbrev pub installed_if : Bool → Kept → Kept
installed_if is query = record query { installed = query.installed || is }

-- the queries with these names are installed
abbrev pub with_installed : List (List ℕ) → List Kept → List Kept
with_installed names queries = map (λ (query : Kept). installed_if (list_any (bytes_eq query.name) names) query) queries

abbrev pub or_installed : Option (List ℕ) → List Kept → Result (List Kept) Refusal
or_installed None queries = Ok queries
or_installed (Some name) queries = Err (refusal.UnknownName name)

abbrev pub all_installed : List Kept → List Kept
all_installed queries = map (λ (query : Kept). record query { installed = true }) queries

-- all of them, or those with these names, if each exists
abbrev pub query_installed : List Kept → Installed → Result (List Kept) Refusal
query_installed queries which.All = Ok (all_installed queries)
query_installed queries (which.Named names) = or_installed (find (λ name. not (has_query queries name)) names) (with_installed names queries)
