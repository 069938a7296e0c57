use Rattle.std.proofs.Common.{map}
use Rattle.gq_value.specs.Views.{val}
use Rattle.gq_rules_calendar.specs.Gregorian.{gregorian}
use Rattle.gq_flow.proofs.QueryLemmas.{query_runs, query_stops}
use Rattle.gq_flow.proofs.query.run_query.Goals as goal

pub returns-in-Err : goal.returns-in-Err
returns-in-Err g c = query_stops gregorian c.args.graph c.args.plan.now (map val c.args.arguments.now) c.args.turns c.in-Err.halt c.run_fault.result c.run_fault.ensures c.in-Err.ensures.begins

pub run_opened-requires-clause-sound : goal.run_opened-requires-clause-sound
run_opened-requires-clause-sound g c κs within = c.in-Ok.ensures.ready.sound

pub returns-in-Ok : goal.returns-in-Ok
returns-in-Ok g c = query_runs gregorian c.args.graph c.args.plan.now (map val c.args.arguments.now) c.args.turns c.in-Ok.opened c.run_opened.result c.in-Ok.ensures.begins c.run_opened.ensures
