-- Prints: the output of a plan, and that of its query.
use Rattle.std.specs.Prelude.{◌≡◌, ℕ, List, [], Option, Some}
use Rattle.gq_value.specs.Val.{Val}
use Rattle.gq_graph.specs.Catalog.{Schema}
use Rattle.gq_graph.specs.declared.types.GraphType.{GraphType}
use Rattle.gq_graph.specs.declared.rows.VertexRow.{VertexRow}
use Rattle.gq_graph.specs.declared.rows.EdgeRow.{EdgeRow}
use Rattle.gq_rules_typing.specs.Statements.{Bytes, Query}
use Rattle.gq_rules_typing.specs.Sorts.{sorts_of}
use Rattle.gq_rules_meaning.specs.Calendars.{Calendar}
use Rattle.gq_rules_meaning.specs.Graphs.{Graph, graph_of}
use Rattle.gq_rules_meaning.specs.Queries.{run_plan, run_query}
use Rattle.gq_plan_ir.specs.declared.plan.Plan.{Plan}
use Rattle.gq_plan_ir.specs.Belonging.{world_of}
use Rattle.gq_plan_ir.specs.PlanView.{view_plan, accum_names}
use Rattle.gq_plan_laws.specs.PlannedLaws.{IsPlanned}

-- the graph that a plan reads of a catalog and a store: it has the types of the plan's graph
abbrev pub graph_for : Schema → Plan → List VertexRow → List EdgeRow → Graph
graph_for schema p vertices edges = graph_of schema (Some (record { name = []; vertices = p.vertices; edges = p.edges })) vertices edges

-- over any store, with any calendar, any arguments and any limit on turns, the plan prints what the query prints for
-- its graph
pub record PrintsAs (schema : Schema) (own : Option GraphType) (q : Query Bytes) (p : Plan) : Type 0 where
  pub same_graph : (vertices : List VertexRow) (edges : List EdgeRow) → graph_for schema p vertices edges ≡ graph_of schema own vertices edges
  pub same : (vertices : List VertexRow) (edges : List EdgeRow) (clock : Calendar) (arguments : List Val) (turns : ℕ)
      → run_plan (world_of (accum_names p) [] (graph_for schema p vertices edges) clock) (view_plan p) arguments turns
      ≡ run_query (graph_of schema own vertices edges) clock q arguments turns

abbrev pub PrintLaw : Type 0
PrintLaw = (schema : Schema) (own : Option GraphType) (q : Query Bytes) (p : Plan) → IsPlanned (sorts_of schema own) q p → PrintsAs schema own q p
