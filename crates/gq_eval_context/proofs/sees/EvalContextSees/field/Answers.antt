use Rattle.std.proofs.Common.{subst}
use Rattle.gq_rules_meaning.specs.States as states
use Rattle.gq_rules_calendar.specs.Gregorian.{gregorian}
use Rattle.gq_plan_ir.specs.ExprView.{field_of}
use Rattle.gq_plan_ir.specs.PlanView.{accum_names}
use Rattle.gq_eval_operand.specs.Meant.{meant, Tells}
use Rattle.gq_eval_context.specs.Viewed.{Viewed}
use Rattle.gq_eval_context.specs.Looks.{world_in}
use Rattle.gq_eval_context.proofs.sees.EvalContextSees.field.Goals as goal

pub returns-clause-seen : goal.returns-clause-seen
returns-clause-seen c =
    let plan = c.self.inside.plan.now in
    subst (λ (v : Viewed). Tells meant (states.field_of (world_in gregorian v) (meant c.args.of) (field_of c.args.field.now)) c.field_seen.result) c.self.view_is
    (c.field_seen.ensures.seen.each plan.vertices plan.edges (accum_names plan) gregorian)
