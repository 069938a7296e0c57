use Rattle.std.proofs.Common.{subst, sym}
use Rattle.std.specs.Option.{option_map}
use Rattle.gq_rules_meaning.specs.Statements.{assigned}
use Rattle.gq_rules_calendar.specs.Gregorian.{gregorian}
use Rattle.gq_plan_ir.specs.declared.step.Right.{Right}
use Rattle.gq_plan_ir.specs.PlanView.{view_right, view_set_types}
use Rattle.gq_plan_ir.specs.Reference.{Place}
use Rattle.gq_exec_control.specs.Changes.{Becomes}
use Rattle.gq_exec_control.specs.Contexts.{world_on}
use Rattle.gq_flow.proofs.AssignLemmas.{sound_kept}
use Rattle.gq_flow.proofs.rights.assign.Goals as goal

pub returns-in-Select-clause-names : goal.returns-in-Select-clause-names
returns-in-Select-clause-names g c =
    subst (λ (r : Right). Becomes (λ s. assigned (world_on gregorian c.args.context.now) s (Place c.args.place) (option_map view_set_types c.args.types) (view_right r)) c.args.live.now c.assign_select.new.live c.assign_select.result)
    (sym c.in-Select.is) c.assign_select.ensures.names

pub returns-in-Sets-clause-names : goal.returns-in-Sets-clause-names
returns-in-Sets-clause-names g c =
    subst (λ (r : Right). Becomes (λ s. assigned (world_on gregorian c.args.context.now) s (Place c.args.place) (option_map view_set_types c.args.types) (view_right r)) c.args.live.now c.assign_sets.new.live c.assign_sets.result)
    (sym c.in-Sets.is) c.assign_sets.ensures.names

pub returns-in-Sets-clause-sound : goal.returns-in-Sets-clause-sound
returns-in-Sets-clause-sound g c = sound_kept c.assign_sets.result c.args.live.now.frame.accums c.assign_sets.new.live.frame.accums c.assign_sets.ensures.accums c.requires

pub returns-in-Value-clause-names : goal.returns-in-Value-clause-names
returns-in-Value-clause-names g c =
    subst (λ (r : Right). Becomes (λ s. assigned (world_on gregorian c.args.context.now) s (Place c.args.place) (option_map view_set_types c.args.types) (view_right r)) c.args.live.now c.assign_value.new.live c.assign_value.result)
    (sym c.in-Value.is) c.assign_value.ensures.names

pub returns-in-Value-clause-sound : goal.returns-in-Value-clause-sound
returns-in-Value-clause-sound g c = sound_kept c.assign_value.result c.args.live.now.frame.accums c.assign_value.new.live.frame.accums c.assign_value.ensures.accums c.requires
