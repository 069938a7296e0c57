-- Statements: the effect of each statement on a session, what it prints, and what it leaves if it fails.
use Rattle.std.specs.Prelude.{◌≡◌, ◌≢◌, ℕ, Bool, List, [], length, map, Option, Some, None, Result, Ok, Err, Vec, option_map}
use Rattle.std.specs.declared.alloc.Global.{Global}
use Rattle.gq_graph.specs.Catalog.{Schema, graph_of}
use Rattle.gq_index.specs.declared.store.Store.{Store}
use Rattle.gq_tree.specs.declared.schema.VertexTree.{VertexTree}
use Rattle.gq_tree.specs.declared.schema.EdgeTree.{EdgeTree}
use Rattle.gq_tree.specs.declared.schema.GraphTree.{GraphTree}
use Rattle.gq_tree.specs.declared.schema.InsertTree.{InsertTree}
use Rattle.gq_tree.specs.declared.job.JobTree.{JobTree}
use Rattle.gq_tree.specs.declared.job.RunJobTree.{RunJobTree}
use Rattle.gq_tree.specs.declared.query.QueryTree.{QueryTree}
use Rattle.gq_tree.specs.declared.query.Installed.{Installed}
use Rattle.gq_tree.specs.declared.statement.Statement.{Statement}
use Rattle.gq_tree.specs.declared.statement.Statement.TheVariants as top
use Rattle.gq_diagnostics.specs.declared.refusal.Refusal.{Refusal}
use Rattle.gq_diagnostics.specs.declared.refusal.Refusal.TheVariants as refusal
use Rattle.gq_diagnostics.specs.declared.refusal.StatementFault.{StatementFault}
use Rattle.gq_diagnostics.specs.declared.refusal.StatementFault.TheVariants as fault
use Rattle.gq_diagnostics.specs.Messages.{message_of}
use Rattle.gq_ddl.specs.Declarations.{vertex_created, edge_created, graph_created}
use Rattle.gq_ddl.specs.declared.named.NamedJob.{NamedJob}
use Rattle.gq_ddl.specs.Jobs.{job_created}
use Rattle.gq_load.specs.Keeping.{no_rows}
use Rattle.gq_load_run.specs.JobRuns.{JobDoes, JobLeaves}
use Rattle.gq_insert.specs.Inserting.{row_inserted}
use Rattle.gq_tree.specs.declared.query.RunTree.{RunTree}
use Rattle.gq_rules_typing.specs.StatementViews.{view_query}
use Rattle.gq_rules_meaning.specs.Sessions as sessions
use Rattle.gq_rules_meaning.specs.Sessions.{ran, interpreted}
use Rattle.gq_rules_calendar.specs.Gregorian.{gregorian}
use Rattle.gq_arguments.specs.Given.{view_argument}
use Rattle.gq_arguments.specs.Members.{members_for}
use Rattle.gq_query_run.specs.Kept.{Kept}
use Rattle.gq_query_run.specs.Queries.{query_created, query_installed}
use Rattle.gq_query_run.specs.Sessions.{session_of}
use Rattle.gq_io.specs.Known.{Known}
use Rattle.gq_diagnostics.specs.Effects.{Effect, Becomes, Refused, lines_of}
use Rattle.gq_session.specs.Arguments.{object_of}

-- the state between two statements: the catalog, the number of the graph in use, loading jobs and queries by name, and
-- the store; and what stays the same: the bytes of the file of arguments, if one is named, and the limit on turns of a
-- query
pub record State : Type 0 where
  pub schema : Schema
  pub in_use : Option ℕ
  pub jobs : List NamedJob
  pub queries : List Kept
  pub store : Store
  pub file : Option (List ℕ)
  pub turns : ℕ

-- an empty session: no types, no graphs, no graph in use, no jobs, no queries, and no rows
abbrev pub opening : Option (List ℕ) → ℕ → State
opening file turns = record { schema = record { vertex_types = []; edge_types = []; graphs = [] }; in_use = None; jobs = []; queries = []; store = no_rows; file = file; turns = turns }

-- ---- types and graphs

abbrev pub with_schema : State → Result Schema Refusal → Result State Refusal
with_schema s (Ok schema) = Ok (record s { schema = schema })
with_schema s (Err r) = Err r

-- CREATE VERTEX, and CREATE EDGE
abbrev pub vertex_made : State → VertexTree → Result State Refusal
vertex_made s tree = with_schema s (vertex_created s.schema tree)

abbrev pub edge_made : State → EdgeTree → Result State Refusal
edge_made s tree = with_schema s (edge_created s.schema tree)

abbrev pub with_graph : State → Result Schema Refusal → Result State Refusal
with_graph s (Ok schema) = Ok (record s { schema = schema; in_use = Some (length s.schema.graphs) })
with_graph s (Err r) = Err r

-- CREATE GRAPH, which makes it the graph in use
abbrev pub graph_made : State → GraphTree → Result State Refusal
graph_made s tree = with_graph s (graph_created s.schema tree)

abbrev pub in_use_or : State → List ℕ → Option ℕ → Result State Refusal
in_use_or s name (Some graph) = Ok (record s { in_use = Some graph })
in_use_or s name None = Err (refusal.UnknownName name)

-- USE GRAPH
abbrev pub graph_used : State → List ℕ → Result State Refusal
graph_used s name = in_use_or s name (graph_of s.schema name)

-- ---- loading jobs and rows

abbrev pub with_jobs : State → Result (List NamedJob) Refusal → Result State Refusal
with_jobs s (Ok jobs) = Ok (record s { jobs = jobs })
with_jobs s (Err r) = Err r

-- CREATE LOADING JOB
abbrev pub job_made : State → JobTree → Result State Refusal
job_made s tree = with_jobs s (job_created s.schema s.jobs tree)

abbrev pub with_rows : State → Result Store Refusal → Result State Refusal
with_rows s (Ok store) = Ok (record s { store = store })
with_rows s (Err r) = Err r

-- INSERT INTO
abbrev pub row_made : State → InsertTree → Result State Refusal
row_made s tree = with_rows s (row_inserted s.schema s.store tree)

-- an effect on the store, as an effect on the session
abbrev pub store_done : State → Effect Store → Effect State
store_done s (Becomes store lines) = Becomes (record s { store = store }) lines
store_done s (Refused message) = Refused message

-- RUN LOADING JOB
abbrev pub RunsJob : Known → State → RunJobTree → Effect State → Type 0
RunsJob known s tree effect = (e : Effect Store) × JobDoes known s.schema s.jobs s.store tree e × (effect ≡ store_done s e)

-- ---- queries

abbrev pub with_queries : State → Result (List Kept) Refusal → Result State Refusal
with_queries s (Ok queries) = Ok (record s { queries = queries })
with_queries s (Err r) = Err r

-- CREATE QUERY; true means OR REPLACE
abbrev pub query_made : State → Bool → List ℕ → QueryTree → Result State Refusal
query_made s replace name tree = with_queries s (query_created s.schema s.in_use s.queries replace name tree)

-- INSTALL QUERY
abbrev pub install_made : State → Installed → Result State Refusal
install_made s which = with_queries s (query_installed s.queries which)

-- ---- statements

-- the effect of a statement that prints nothing
abbrev pub effect_of : Result State Refusal → Effect State
effect_of (Ok s) = Becomes s []
effect_of (Err r) = Refused (message_of r)

-- the session of the definitions of gq_rules_meaning, and the effect on it: RUN QUERY and INTERPRET QUERY don't change
-- it
abbrev pub session_in : State → sessions.Session
session_in s = session_of s.schema s.in_use s.queries s.store

abbrev pub effect_in : State → sessions.Effect → Effect State
effect_in s (sessions.Becomes t lines) = Becomes s lines
effect_in s (sessions.Refused message) = Refused message

-- RUN QUERY
abbrev pub query_ran : State → RunTree → Effect State
query_ran s tree =
    effect_in s (ran (session_in s) gregorian s.turns tree.name (option_map (map view_argument) tree.arguments) (members_for (object_of s.file) tree.name))

-- INTERPRET QUERY
abbrev pub query_interpreted : State → QueryTree → Effect State
query_interpreted s tree = effect_in s (interpreted (session_in s) gregorian s.turns tree.graph tree.modes (view_query tree))

-- a refusal has words. For a query that is stuck, which has no answer, the definitions of gq_rules_meaning have none: such
-- a query has no effect. No query of a session is one (`Safe.antt`)
abbrev pub HasWords : Effect State → Type 0
HasWords (Becomes t lines) = Unit {0}
HasWords (Refused message) = message ≢ []

-- the effect of a statement, by what is known of the files
abbrev pub Does : Known → State → Statement → Effect State → Type 0
Does known s (top.Vertex tree) effect = effect ≡ effect_of (vertex_made s tree)
Does known s (top.Edge tree) effect = effect ≡ effect_of (edge_made s tree)
Does known s (top.Graph tree) effect = effect ≡ effect_of (graph_made s tree)
Does known s (top.Use name) effect = effect ≡ effect_of (graph_used s name)
Does known s (top.Job tree) effect = effect ≡ effect_of (job_made s tree)
Does known s (top.RunJob tree) effect = RunsJob known s tree effect
Does known s (top.Query replace name tree) effect = effect ≡ effect_of (query_made s replace name tree)
Does known s (top.Install which) effect = effect ≡ effect_of (install_made s which)
Does known s (top.Run tree) effect = (effect ≡ query_ran s tree) × HasWords effect
Does known s (top.Interpret tree) effect = (effect ≡ query_interpreted s tree) × HasWords effect
Does known s (top.Insert tree) effect = effect ≡ effect_of (row_made s tree)
Does known s top.Begin effect = effect ≡ Becomes s []
Does known s top.End effect = effect ≡ Becomes s []

-- ---- answers

-- the answer of a statement that doesn't change the session; OutOfMemory may occur at any time
abbrev pub Prints : State → Effect State → Result (Option (Vec ℕ Global)) StatementFault → Type 0
Prints s effect (Ok line) = effect ≡ Becomes s (lines_of line)
Prints s effect (Err (fault.Refused refusal)) = effect ≡ Refused (message_of refusal)
Prints s effect (Err fault.ReadFault) = ⊥
Prints s effect (Err fault.OutOfMemory) = Unit {0}

-- ---- the session after a fault

-- a loading job that ends by this fault leaves upserts in the store, and everything else unchanged
abbrev pub JobLeft : Known → State → RunJobTree → StatementFault → State → Type 0
JobLeft known s tree fault t = (store : Store) × JobLeaves known s.schema s.jobs s.store tree fault store × (t ≡ record s { store = store })

-- after a statement that ends by this fault the session is unchanged, except for the store of a loading job
abbrev pub Leaves : Known → State → Statement → StatementFault → State → Type 0
Leaves known s (top.Vertex tree) fault t = t ≡ s
Leaves known s (top.Edge tree) fault t = t ≡ s
Leaves known s (top.Graph tree) fault t = t ≡ s
Leaves known s (top.Use name) fault t = t ≡ s
Leaves known s (top.Job tree) fault t = t ≡ s
Leaves known s (top.RunJob tree) fault t = JobLeft known s tree fault t
Leaves known s (top.Query replace name tree) fault t = t ≡ s
Leaves known s (top.Install which) fault t = t ≡ s
Leaves known s (top.Run tree) fault t = t ≡ s
Leaves known s (top.Interpret tree) fault t = t ≡ s
Leaves known s (top.Insert tree) fault t = t ≡ s
Leaves known s top.Begin fault t = t ≡ s
Leaves known s top.End fault t = t ≡ s
