-- Sessions: the effects of a script's statements on queries, and the output of a whole script.
-- The statements on types, graphs, jobs and files come with their own definitions: they are a parameter here.
use Rattle.std.specs.Prelude.{ℕ, Bool, true, false, not, ◌&&◌, ◌||◌, if◌then◌else◌, List, [], ◌∷◌, ◌++◌, map, find, Option, Some, None, Result, Ok, Err, bytes_eq, codes, slice_get}
use Rattle.std.specs.List.{list_any}
use Rattle.std.specs.Str.{str_eq_ignore_ascii_case}
use Rattle.gq_rules_typing.specs.Mode.{Mode}
use Rattle.gq_rules_typing.specs.Mode.TheVariants as mode
use Rattle.gq_graph.specs.declared.types.GraphType.{GraphType}
use Rattle.gq_graph.specs.declared.rows.VertexRow.{VertexRow}
use Rattle.gq_graph.specs.declared.rows.EdgeRow.{EdgeRow}
use Rattle.gq_graph.specs.Catalog.{Schema, graph_of}
use Rattle.gq_rules_typing.specs.Statements.{Bytes, Query}
use Rattle.gq_rules_typing.specs.Sorts.{sorts_of}
use Rattle.gq_rules_typing.specs.Judging.{Judged}
use Rattle.gq_rules_typing.specs.Scopes.{Scope}
use Rattle.gq_rules_typing.specs.QueryTypes.{typing_query}
use Rattle.gq_rules_meaning.specs.Calendars.{Calendar}
use Rattle.gq_rules_meaning.specs.Graphs.{Graph}
use Rattle.gq_rules_meaning.specs.Graphs as graphs
use Rattle.gq_rules_meaning.specs.Outs.{Out}
use Rattle.gq_rules_meaning.specs.Lines.{query_line}
use Rattle.gq_rules_meaning.specs.Messages.{typing_message, slot_names, answer_of_run, answer_of_query, refusal_line}
use Rattle.gq_rules_meaning.specs.Queries.{run_query}
use Rattle.gq_rules_meaning.specs.Arguments.{Argument, Member, Values, AllValues, BadArgument, in_order, wrong_number, by_members, values_of}

-- a query that was created, with the graph that was fixed then
pub record Stored : Type 0 where
  pub name : Bytes
  pub query : Query Bytes
  pub graph : Option GraphType
  pub installed : Bool

-- catalog, store, queries, and the number of the graph in use
pub record Session : Type 0 where
  pub schema : Schema
  pub vertices : List VertexRow
  pub edges : List EdgeRow
  pub queries : List Stored
  pub in_use : Option ℕ

-- the effect of a statement: a session and a line, if it prints one; or the message of its refusal
pub data Effect : Type 0 where
  Becomes : Session → List Bytes → Effect
  Refused : Bytes → Effect

-- ---- graphs and modes

-- the graph that is named, else the one in use, else none
abbrev pub graph_for : Session → Option Bytes → Result (Option GraphType) Bytes
graph_for s None = Ok (in_use s.in_use)
  where
    in_use : Option ℕ → Option GraphType
    in_use None = None
    in_use (Some n) = slice_get s.schema.graphs n
graph_for s (Some name) = named (graph_of s.schema name)
  where
    named : Option ℕ → Result (Option GraphType) Bytes
    named None = Err (codes "unknown name " ++ name)
    named (Some n) = Ok (slice_get s.schema.graphs n)

abbrev pub is_good_mode : Mode → Bool
is_good_mode (mode.Api text) = bytes_eq text (codes "v2")
is_good_mode (mode.Syntax name) = str_eq_ignore_ascii_case name (codes "v1") || str_eq_ignore_ascii_case name (codes "v2")

abbrev pub same_mode : Mode → Mode → Bool
same_mode (mode.Api s) (mode.Api t) = true
same_mode (mode.Syntax s) (mode.Syntax t) = true
same_mode _ _ = false

-- each is good, and none occurs twice
abbrev pub good_modes : List Mode → Bool
good_modes [] = true
good_modes (m ∷ ms) = is_good_mode m && (not (list_any (same_mode m) ms) && good_modes ms)

-- ---- queries

abbrev pub stored_named : Session → Bytes → Option Stored
stored_named s name = find (λ (q : Stored). bytes_eq name q.name) s.queries

abbrev pub with_query : Session → Stored → Session
with_query s q = record s { queries = q ∷ s.queries }

abbrev pub graph_in : Session → Option GraphType → Graph
graph_in s own = graphs.graph_of s.schema own s.vertices s.edges

-- a query that is checked
abbrev pub if_typed : Session → Option GraphType → Query Bytes → Effect → Effect
if_typed s own q effect = of_judged (typing_query (sorts_of s.schema own) q)
  where
    of_judged : Judged (Scope Bytes) → Effect
    of_judged (Err fault) = Refused (typing_message fault)
    of_judged (Ok scope) = effect

abbrev pub if_graph : Session → Option Bytes → (Option GraphType → Effect) → Effect
if_graph s name effect = of_graph (graph_for s name)
  where
    of_graph : Result (Option GraphType) Bytes → Effect
    of_graph (Err message) = Refused message
    of_graph (Ok own) = effect own

-- CREATE QUERY: its modes, its name, its graph, its rules
abbrev pub created : Session → Bool → Bytes → Option Bytes → List Mode → Query Bytes → Effect
created s replace name graph modes q =
    if not (good_modes modes) then Refused (codes "bad option")
    else (if not replace && list_any (λ (p : Stored). bytes_eq name p.name) s.queries then Refused (codes "name taken " ++ name)
    else if_graph s graph (λ own. if_typed s own q (Becomes (with_query s (record { name = name; query = q; graph = own; installed = false })) [])))

-- INSTALL QUERY: the first name that is unknown; no name at all means every query
abbrev pub installed_if : (Bytes → Bool) → Stored → Stored
installed_if is q = if is q.name then (record q { installed = true }) else q

abbrev pub installed : Session → Option (List Bytes) → Effect
installed s None = Becomes (record s { queries = map (installed_if (λ name. true)) s.queries }) []
installed s (Some names) = of_unknown (find (λ name. not (list_any (λ (q : Stored). bytes_eq name q.name) s.queries)) names)
  where
    of_unknown : Option Bytes → Effect
    of_unknown (Some name) = Refused (codes "unknown name " ++ name)
    of_unknown None = Becomes (record s { queries = map (installed_if (λ name. list_any (bytes_eq name) names)) s.queries }) []

-- ---- runs

abbrev pub of_answer : Session → Result (List (List (Bytes × Out))) Bytes → Effect
of_answer s (Ok objects) = Becomes s (query_line objects ∷ [])
of_answer s (Err message) = Refused message

-- INTERPRET QUERY
abbrev pub interpreted : Session → Calendar → ℕ → Option Bytes → List Mode → Query Bytes → Effect
interpreted s clock turns graph modes q =
    if not (good_modes modes) then Refused (codes "bad option")
    else if_graph s graph (λ own. of_answer s (answer_of_query (graph_in s own) clock q [] turns))

-- the query was checked when it was created
abbrev pub run_with : Session → Calendar → ℕ → Stored → List Argument → Effect
run_with s clock turns q arguments = of_values (values_of (sorts_of s.schema q.graph) s.vertices q.query.parameters arguments)
  where
    of_values : Values → Effect
    of_values (BadArgument x) = Refused (codes "bad argument " ++ x)
    of_values (AllValues vs) = of_answer s (answer_of_run (slot_names q.query.definitions) turns (run_query (graph_in s q.graph) clock q.query vs turns))

-- with parentheses, or with the members of the arguments file
abbrev pub run_stored : Session → Calendar → ℕ → Option (List Argument) → List (Bytes × Member) → Stored → Effect
run_stored s clock turns None members q = run_with s clock turns q (by_members q.query.parameters members)
run_stored s clock turns (Some arguments) members q =
    if wrong_number q.query.parameters arguments then Refused (codes "wrong number of arguments") else run_with s clock turns q (in_order q.query.parameters arguments)

-- RUN QUERY: the query is there, it is installed, and it has its arguments
abbrev pub ran : Session → Calendar → ℕ → Bytes → Option (List Argument) → List (Bytes × Member) → Effect
ran s clock turns name arguments members = of_stored (stored_named s name)
  where
    of_stored : Option Stored → Effect
    of_stored None = Refused (codes "unknown name " ++ name)
    of_stored (Some q) = if q.installed then run_stored s clock turns arguments members q else Refused (codes "not installed " ++ name)

-- ---- scripts

-- the lines of all statements, each with the line of the script where it begins; the first refusal is the last line.
-- True if every statement ran
abbrev pub script_lines : {A : Type 0} → (Session → A → Effect) → Session → List (ℕ × A) → List Bytes × Bool
script_lines step s [] = ([], true)
script_lines {A = A} step s (a ∷ rest) = go (step s a.1) (λ t. script_lines step t rest)
  where
    go : Effect → (Session → List Bytes × Bool) → List Bytes × Bool
    go (Refused message) others = (refusal_line a.0 message ∷ [], false)
    go (Becomes t lines) others = (lines ++ (others t).0, (others t).1)
