use Rattle.gq_rules_calendar.specs.Gregorian.{gregorian}
use Rattle.gq_flow.proofs.QueryLemmas.{steps_end, steps_stop}
use Rattle.gq_flow.proofs.query.run_opened.Goals as goal

pub returns-in-Err : goal.returns-in-Err
returns-in-Err g c = steps_stop gregorian c.args.graph c.args.plan.now c.args.opened c.args.turns c.requires.sound _ _ c.as_slice.ensures c.as_slice-2.ensures c.new.result c.new.ensures _ c.in-Err.fault c.in-Err.ensures.does

pub returns : goal.returns
returns g c = steps_end gregorian c.args.graph c.args.plan.now c.args.opened c.args.turns c.requires.sound _ _ c.as_slice.ensures c.as_slice-2.ensures c.new.result c.new.ensures _ c.printed_of.result c.printed_of.ensures c.in-Ok.ensures.does
