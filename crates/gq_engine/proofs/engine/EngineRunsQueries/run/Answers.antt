use Rattle.std.proofs.Common.{map}
use Rattle.gq_value.specs.Views.{val}
use Rattle.gq_rules_meaning.specs.Queries.{run_query}
use Rattle.gq_rules_calendar.specs.Gregorian.{gregorian}
use Rattle.gq_query_run.specs.Sessions.{graph_read}
use Rattle.gq_engine.specs.Engines.{plan_over}
use Rattle.gq_engine.proofs.EngineLemmas.{runs_same}
use Rattle.gq_engine.proofs.engine.EngineRunsQueries.run.Goals as goal

pub returns : goal.returns
returns g c graph query is =
    runs_same (plan_over c.args.catalog.now c.args.store.now gregorian c.args.prepared.now (map val c.args.arguments.now) c.args.turns)
    (run_query (graph_read c.args.catalog.now graph c.args.store.now) gregorian query (map val c.args.arguments.now) c.args.turns) c.run_plan.result
    (is.prints.same c.args.store.now.vertices c.args.store.now.edges.rows gregorian (map val c.args.arguments.now) c.args.turns) c.run_plan.ensures

pub run_plan-requires-clause-few : goal.run_plan-requires-clause-few
run_plan-requires-clause-few g c κs within = c.requires.prepared.2.few

pub run_plan-requires-clause-numbered : goal.run_plan-requires-clause-numbered
run_plan-requires-clause-numbered g c κs within = c.requires.prepared.2.numbered
