-- Safe: the plan of a typed query is never stuck.
use Rattle.std.specs.Prelude.{◌≡◌, ℕ, List, [], Option, Ok}
use Rattle.gq_value.specs.Val.{Val}
use Rattle.gq_graph.specs.Catalog.{Schema}
use Rattle.gq_graph.specs.declared.types.GraphType.{GraphType}
use Rattle.gq_graph.specs.declared.rows.VertexRow.{VertexRow}
use Rattle.gq_graph.specs.declared.rows.EdgeRow.{EdgeRow}
use Rattle.gq_rules_typing.specs.Statements.{Bytes, Query}
use Rattle.gq_rules_typing.specs.Sorts.{Fields, sorts_of}
use Rattle.gq_rules_typing.specs.Scopes.{Scope}
use Rattle.gq_rules_typing.specs.QueryTypes.{typing_query}
use Rattle.gq_rules_meaning.specs.Calendars.{Calendar}
use Rattle.gq_rules_meaning.specs.Graphs.{graph_of}
use Rattle.gq_rules_meaning.specs.Outs.{Out}
use Rattle.gq_rules_meaning.specs.Queries as names
use Rattle.gq_rules_meaning.specs.Queries.{with_tuples, run_plan}
use Rattle.gq_rules_meaning.specs.Fitting.{Safe, WorldFits}
use Rattle.gq_rules_safety.specs.Laws.{ArgumentsFit}
use Rattle.gq_plan_ir.specs.declared.plan.Plan.{Plan}
use Rattle.gq_plan_ir.specs.Belonging.{world_of}
use Rattle.gq_plan_ir.specs.PlanView.{view_plan, accum_names}
use Rattle.gq_plan_laws.specs.PlannedLaws.{IsPlanned}
use Rattle.gq_plan.specs.Prints.{graph_for}

-- if the query is typed: over any store whose rows fit their types whatever tuple types are declared, with arguments of
-- the parameters' types, the plan prints something or ends with a fault
pub record NeverStuck (schema : Schema) (own : Option GraphType) (q : Query Bytes) (p : Plan) : Type 0 where
  pub safe : (t : Scope Bytes) → typing_query (sorts_of schema own) q ≡ Ok t
      → (vertices : List VertexRow) (edges : List EdgeRow) (clock : Calendar)
      → ((tuples : List (Bytes × Fields)) → WorldFits (with_tuples tuples (names.world_of (graph_of schema own vertices edges) clock)))
      → (arguments : List Val) → ArgumentsFit (names.world_of (graph_of schema own vertices edges) clock) q.parameters arguments → (turns : ℕ)
      → Safe (λ (printed : List (List (Bytes × Out))). Unit {0}) (run_plan (world_of (accum_names p) [] (graph_for schema p vertices edges) clock) (view_plan p) arguments turns)

abbrev pub SafeLaw : Type 0
SafeLaw = (schema : Schema) (own : Option GraphType) (q : Query Bytes) (p : Plan) → IsPlanned (sorts_of schema own) q p → NeverStuck schema own q p
