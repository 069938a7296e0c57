use Rattle.gq_plan_ir.specs.BlockView.{view_change}
use Rattle.std.proofs.Common.{Err, refl, ap, ◌∙◌}
use Rattle.gq_rules_calendar.specs.Gregorian.{gregorian}
use Rattle.gq_flow.proofs.ChangeLemmas.{change_done, change_stops, change_too_big, changed_sound}
use Rattle.gq_flow.proofs.change.change.Goals as goal

pub returns-in-Err-clause-names : goal.returns-in-Err-clause-names
returns-in-Err-clause-names c =
    change_stops gregorian c.args.context.now c.args.slot (view_change c.args.change.now) c.args.live.now c.args.live.now c.in-Err.halt c.run_fault.result c.run_fault.ensures c.in-Err.ensures

pub returns-in-Ok-change_at-clause-names : goal.returns-in-Ok-change_at-clause-names
returns-in-Ok-change_at-clause-names c =
    change_done gregorian c.args.context.now c.args.slot (view_change c.args.change.now) c.args.live.now _ c.in-Ok.made c.in-Ok.ensures refl refl c.in-Ok-change_at.ensures.ok

pub returns-in-Ok-change_at-clause-sound : goal.returns-in-Ok-change_at-clause-sound
returns-in-Ok-change_at-clause-sound c = changed_sound c.in-Ok.made c.args.live.now.frame.accums c.change_at.new.accums c.args.slot c.in-Ok-change_at.ensures.ok

pub returns-in-Err-TooBig-clause-names : goal.returns-in-Err-TooBig-clause-names
returns-in-Err-TooBig-clause-names c =
    change_too_big gregorian c.args.context.now c.args.slot (view_change c.args.change.now) c.args.live.now _ c.change_at.new.accums c.in-Ok.made c.in-Ok.ensures (c.change_at.ensures.too_big (c.in-Err-TooBig.is ∙ ap Err c.in-Err-TooBig.field-0-is))
