-- EngineLemmas: the run of a plan is the run of its query, and a typed query has a plan.
use Rattle.std.proofs.Common.{◌≡◌, ◌≢◌, ◌<◌, ◌≤◌, ℕ, List, length, Option, Result, sym, subst, ◌∙◌}
use Rattle.std.specs.Option.{ForSome}
use Rattle.gq_json.specs.declared.out.Printed.{Printed}
use Rattle.gq_graph.specs.Catalog.{Schema, most_types}
use Rattle.gq_tree.specs.declared.query.QueryTree.{QueryTree}
use Rattle.gq_rules_typing.specs.Sorts.{sorts_of}
use Rattle.gq_rules_typing.specs.Statements.{Bytes, Query}
use Rattle.gq_rules_typing.specs.StatementViews.{view_query}
use Rattle.gq_rules_meaning.specs.Answers.{Answer}
use Rattle.gq_rules_meaning.specs.Statements.{Fault}
use Rattle.gq_scope.specs.Held.{graph_in}
use Rattle.gq_plan_expr.specs.declared.fault.PlanFault.{PlanFault}
use Rattle.gq_plan_expr.specs.declared.fault.PlanFault.TheVariants as fault
use Rattle.gq_plan_ir.specs.declared.plan.Plan.{Plan}
use Rattle.gq_plan_laws.specs.PlannedLaws.{IsPlanned}
use Rattle.gq_plan.specs.Prints.{PrintsAs}
use Rattle.gq_plan.specs.Unplanned.{NotTyped}
use Rattle.gq_engine.specs.Engines.{IsPlanOf}
use Rattle.gq_engine.proofs.NumberLaws.{plan_numbered}
use Rattle.gq_query_run.specs.declared.runner.QueryFault.{QueryFault}
use Rattle.gq_query_run.specs.Judging.{IsTyped}
use Rattle.gq_query_run.specs.Runs.{Runs}
use Rattle.gq_flow.specs.Plans.{Objects}

pub runs_same : (o p : Answer Fault Objects) (r : Result (List Printed) QueryFault) → o ≡ p → Runs o r → Runs p r
runs_same o p r e h = subst (λ x. Runs x r) e h

-- a typed query for a graph that exists isn't unknown
pub no_unknown : (schema : Schema) (graph : Option ℕ) (query : QueryTree) (e : PlanFault) → e ≡ fault.Unknown
    → (e ≢ fault.OutOfMemory → ForSome graph (λ g. g < length schema.graphs) → NotTyped (sorts_of schema (graph_in schema graph)) (view_query query))
    → ForSome graph (λ g. g < length schema.graphs) → IsTyped schema graph query → ⊥
no_unknown schema graph query e is none there typed = (none (λ m. let bad : fault.Unknown ≡ fault.OutOfMemory = sym is ∙ m in absurd (cc bad)) there).none typed.0 typed.1

-- it is a plan of the query
pub plan_made : (schema : Schema) (graph : Option ℕ) (query : Query Bytes) (plan : Plan) → IsPlanned (sorts_of schema (graph_in schema graph)) query plan → PrintsAs schema (graph_in schema graph) query plan → length plan.edges ≤ most_types
    → IsPlanOf schema graph query plan
plan_made schema graph query plan planned prints few = record { prints = prints; few = few; numbered = plan_numbered (sorts_of schema (graph_in schema graph)) query plan planned }

pub ruleset planned_laws = (no_unknown, plan_made)
