-- Engines: the run of a plan over a catalog and a store.
use Rattle.std.specs.Prelude.{ℕ, ◌≤◌, List, [], length, Option}
use Rattle.gq_graph.specs.Catalog.{Schema, most_types}
use Rattle.gq_value.specs.Val.{Val}
use Rattle.gq_index.specs.declared.store.Store.{Store}
use Rattle.gq_rules_meaning.specs.Answers.{Answer}
use Rattle.gq_rules_meaning.specs.Calendars.{Calendar}
use Rattle.gq_rules_meaning.specs.Queries.{run_plan}
use Rattle.gq_rules_meaning.specs.Statements.{Fault}
use Rattle.gq_plan_ir.specs.declared.plan.Plan.{Plan}
use Rattle.gq_plan_ir.specs.Belonging.{world_of}
use Rattle.gq_plan_ir.specs.PlanView.{accum_names, view_plan}
use Rattle.gq_eval_context.specs.Looks.{graph_for}
use Rattle.gq_flow.specs.Plans.{Objects}
use Rattle.gq_plan_ir.specs.Numbered.{AreNumbered}
use Rattle.gq_plan.specs.Prints.{PrintsAs}
use Rattle.gq_rules_typing.specs.Statements.{Bytes, Query}
use Rattle.gq_scope.specs.Held.{graph_in}

-- the output of a plan over a catalog and a store
abbrev pub plan_over : Schema → Store → Calendar → Plan → List Val → ℕ → Answer Fault Objects
plan_over schema store clock plan arguments turns = run_plan (world_of (accum_names plan) [] (graph_for schema store.vertices store.edges plan) clock) (view_plan plan) arguments turns

-- a plan of a query for a graph, whose tuple types and slots are numbered in order
pub record IsPlanOf (schema : Schema) (graph : Option ℕ) (query : Query Bytes) (plan : Plan) : Type 0 where
  pub prints : PrintsAs schema (graph_in schema graph) query plan
  pub few : length plan.edges ≤ most_types
  pub numbered : AreNumbered plan.definitions
