use Rattle.std.proofs.Common.{refl, ap, ◌∙◌}
use Rattle.gq_rules_calendar.specs.Gregorian.{gregorian}
use Rattle.gq_plan_ir.specs.PlanView.{view_term}
use Rattle.gq_exec_vars.specs.Written.{others_of}
use Rattle.gq_exec_control.specs.Contexts.{Basis}
use Rattle.gq_flow.proofs.AssignLemmas.{held_on}
use Rattle.gq_flow.proofs.sets.set_held.Goals as goal

pub returns : goal.returns
returns c =
    held_on gregorian c.args.context.now c.args.frame.now _ (view_term c.args.expression.now.first) (others_of c.args.expression.now.others) c.sets.result c.or_fault.result
    (ap (λ (b : Basis). b.vertices) c.context.view_is) (c.as_slice.ensures ∙ ap (λ (b : Basis). b.plan.vertices) c.context.view_is) refl
    c.sets.ensures c.or_fault.ensures
