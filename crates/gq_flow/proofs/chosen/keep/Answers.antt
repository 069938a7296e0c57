use Rattle.std.proofs.Common.{refl}
use Rattle.std.specs.Option.{option_map}
use Rattle.gq_rules_calendar.specs.Gregorian.{gregorian}
use Rattle.gq_plan_ir.specs.PlanView.{view_set_types}
use Rattle.gq_flow.proofs.AssignLemmas.{kept_by}
use Rattle.gq_flow.proofs.chosen.keep.Goals as goal

pub returns-clause-names : goal.returns-clause-names
returns-clause-names c =
    kept_by gregorian c.args.context.now c.args.place (option_map view_set_types c.args.types) c.args.selected c.args.live.now (record { frame = record { things = c.args.live.now.frame.things; accums = c.args.selected.accums }; undo = c.args.live.now.undo }) c.give_set.new.live c.give_set.result
    refl refl refl c.give_set.ensures.names
