-- Sessions: catalog, queries and store as a session of the definitions of gq_rules_meaning.
use Rattle.std.specs.Prelude.{ℕ, List, map, Option}
use Rattle.gq_graph.specs.Catalog.{Schema}
use Rattle.gq_index.specs.declared.store.Store.{Store}
use Rattle.gq_rules_typing.specs.StatementViews.{view_query}
use Rattle.gq_scope.specs.Held.{graph_in}
use Rattle.gq_rules_meaning.specs.Graphs.{Graph, graph_of}
use Rattle.gq_rules_meaning.specs.Sessions.{Session, Stored}
use Rattle.gq_query_run.specs.Kept.{Kept}

abbrev pub stored_of : Schema → Kept → Stored
stored_of schema q = record { name = q.name; query = view_query q.tree; graph = graph_in schema q.graph; installed = q.installed }

abbrev pub session_of : Schema → Option ℕ → List Kept → Store → Session
session_of schema in_use queries store = record {
  schema = schema;
  vertices = store.vertices;
  edges = store.edges.rows;
  queries = map (stored_of schema) queries;
  in_use = in_use;
}

-- what a query for the graph with this number reads
abbrev pub graph_read : Schema → Option ℕ → Store → Graph
graph_read schema graph store = graph_of schema (graph_in schema graph) store.vertices store.edges.rows
