use Rattle.std.specs.Option.{option_map}
use Rattle.gq_rules_calendar.specs.Gregorian.{gregorian}
use Rattle.gq_plan_ir.specs.PlanView.{view_set_types}
use Rattle.gq_flow.proofs.AssignLemmas.{select_given, select_stops, sound_given}
use Rattle.gq_flow.proofs.chosen.assign_select.Goals as goal

pub returns-in-Err-clause-names : goal.returns-in-Err-clause-names
returns-in-Err-clause-names g c =
    select_stops gregorian c.args.context.now c.args.place (option_map view_set_types c.args.types) c.args.block.now c.args.live.now c.args.live.now c.in-Err.fault c.in-Err.ensures.selects

pub returns-in-Ok-keep-clause-names : goal.returns-in-Ok-keep-clause-names
returns-in-Ok-keep-clause-names g c =
    select_given gregorian c.args.context.now c.args.place (option_map view_set_types c.args.types) c.args.block.now c.args.live.now c.keep.new.live c.in-Ok.selected c.in-Ok.ensures.selects c.in-Ok-keep.ensures.names

pub returns-in-Ok-keep-clause-sound : goal.returns-in-Ok-keep-clause-sound
returns-in-Ok-keep-clause-sound g c = sound_given c.in-Ok.selected c.keep.new.live.frame.accums c.keep.ensures.accums c.in-Ok.ensures.sound
