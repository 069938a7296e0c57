use Rattle.std.proofs.Common.{map, refl, sym, ap, ◌∙◌}
use Rattle.std.specs.Option.{option_map}
use Rattle.gq_rules_typing.specs.Statements as plain
use Rattle.gq_plan_ir.specs.BlockView.{view_change}
use Rattle.gq_plan_ir.specs.PlanView.{view_declared, view_item, view_locals, view_right, view_set_types, view_step}
use Rattle.gq_plan_ir.specs.Reference.{Place}
use Rattle.gq_plan_ir.proofs.ViewLaws.{view_step-Assign, view_step-Global, view_step-Local, view_step-Print}
use Rattle.gq_rules_calendar.specs.Gregorian.{gregorian}
use Rattle.gq_exec_control.specs.Contexts.{world_on}
use Rattle.gq_flow.proofs.AssignLemmas.{sound_kept}
use Rattle.gq_flow.proofs.ProgramLemmas.{assign_does, global_does, local_does, print_does}
use Rattle.gq_flow.proofs.program.Program.act.Goals as goal

pub returns-in-Local-clause-does : goal.returns-in-Local-clause-does
returns-in-Local-clause-does g c =
    local_does (world_on gregorian c.args.self.now.context) c.args.step.now c.args.r.now (record { live = c.declare.new.live; turns = c.args.r.now.turns; printed = c.args.r.now.printed }) c.declare.result refl refl
    (view_declared c.in-Local.declared) (view_locals c.as_slice.result.now)
    (ap view_step c.in-Local.is ∙ view_step-Local c.in-Local.declared c.in-Local.locals ∙ ap (λ xs. plain.Local (view_declared c.in-Local.declared) (view_locals xs)) (sym c.as_slice.ensures))
    c.declare.ensures.accums c.requires.sound c.declare.ensures.names

pub returns-in-Local-clause-sound : goal.returns-in-Local-clause-sound
returns-in-Local-clause-sound g c = sound_kept c.declare.result c.args.r.now.live.frame.accums c.declare.new.live.frame.accums c.declare.ensures.accums c.requires.sound

pub returns-in-Assign-clause-does : goal.returns-in-Assign-clause-does
returns-in-Assign-clause-does g c =
    assign_does (world_on gregorian c.args.self.now.context) c.args.step.now c.args.r.now (record { live = c.assign.new.live; turns = c.args.r.now.turns; printed = c.args.r.now.printed }) c.assign.result refl refl
    (Place c.in-Assign.place) (option_map view_set_types c.in-Assign.types) (view_right c.in-Assign.right)
    (ap view_step c.in-Assign.is ∙ view_step-Assign c.in-Assign.place c.in-Assign.types c.in-Assign.right) c.assign.ensures.sound c.assign.ensures.names

pub returns-in-Global-clause-does : goal.returns-in-Global-clause-does
returns-in-Global-clause-does g c =
    global_does (world_on gregorian c.args.self.now.context) c.args.step.now c.args.r.now (record { live = c.change.new.live; turns = c.args.r.now.turns; printed = c.args.r.now.printed }) c.change.result refl refl
    c.in-Global.slot (view_change c.in-Global.made) (ap view_step c.in-Global.is ∙ view_step-Global c.in-Global.slot c.in-Global.made) c.change.ensures.sound c.change.ensures.names

pub returns-in-Print-clause-does : goal.returns-in-Print-clause-does
returns-in-Print-clause-does g c =
    print_does (world_on gregorian c.args.self.now.context) c.args.step.now c.args.r.now c.print_more.new.r c.print_more.result (map view_item c.as_slice-in-Print.result.now)
    (ap view_step c.in-Print.is ∙ view_step-Print c.in-Print.items ∙ ap (λ xs. plain.Print (map view_item xs)) (sym c.as_slice-in-Print.ensures)) c.print_more.ensures.does
