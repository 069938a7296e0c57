use Rattle.std.proofs.Common.{ap, ◌∙◌}
use Rattle.std.specs.Option.{option_map}
use Rattle.gq_rules_calendar.specs.Gregorian.{gregorian}
use Rattle.gq_plan_ir.specs.PlanView.{view_set_types}
use Rattle.gq_exec_vars.specs.Written.{typed}
use Rattle.gq_exec_control.specs.Contexts.{Basis}
use Rattle.gq_flow.proofs.AssignLemmas.{fixed_by}
use Rattle.gq_flow.proofs.sets.give_set.Goals as goal

pub returns-clause-names : goal.returns-clause-names
returns-clause-names c =
    fixed_by gregorian c.args.context.now c.args.place (option_map view_set_types c.args.types) (typed c.args.set) c.as_slice-own.result.now c.args.live.now c.assign_set.new.live c.assign_set.result
    (c.as_slice-own.ensures ∙ ap (λ (b : Basis). b.plan.vertices) c.context.view_is) c.assign_set.ensures.names
