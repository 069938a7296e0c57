use Rattle.std.specs.Option.{option_map}
use Rattle.gq_rules_meaning.specs.Sets.{sets_of}
use Rattle.gq_rules_calendar.specs.Gregorian.{gregorian}
use Rattle.gq_plan_ir.specs.PlanView.{view_set_types, view_term}
use Rattle.gq_exec_vars.specs.Written.{others_of}
use Rattle.gq_exec_control.specs.Contexts.{world_on}
use Rattle.gq_flow.proofs.AssignLemmas.{set_given, set_stops}
use Rattle.gq_flow.proofs.sets.assign_sets.Goals as goal

pub returns-in-Err-clause-names : goal.returns-in-Err-clause-names
returns-in-Err-clause-names c =
    set_stops gregorian c.args.context.now c.args.place (option_map view_set_types c.args.types) (λ s. sets_of (world_on gregorian c.args.context.now) s (view_term c.args.sets.now.first) (others_of c.args.sets.now.others))
    c.args.live.now c.args.live.now c.in-Err.fault c.in-Err.ensures

pub returns-in-Ok-give_set-clause-names : goal.returns-in-Ok-give_set-clause-names
returns-in-Ok-give_set-clause-names c =
    set_given gregorian c.args.context.now c.args.place (option_map view_set_types c.args.types) (λ s. sets_of (world_on gregorian c.args.context.now) s (view_term c.args.sets.now.first) (others_of c.args.sets.now.others))
    c.args.live.now c.give_set.new.live c.in-Ok.set c.in-Ok.ensures c.in-Ok-give_set.ensures.names
