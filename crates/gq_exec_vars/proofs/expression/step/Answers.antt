use Rattle.gq_plan_ir.specs.PlanView.{view_term}
use Rattle.gq_exec_vars.specs.Written.{typed, set_is, step_of}
use Rattle.gq_exec_vars.proofs.SetLemmas.{halts_on, step_halts}
use Rattle.gq_exec_vars.proofs.expression.step.Goals as goal

pub returns-in_err-other : goal.returns-in_err-other
returns-in_err-other c = λ world s seen.
    halts_on typed (step_of world s (set_is c.args.left) c.args.op (view_term c.args.right.now)) c.in_err-other.field-0.0 c.from_residual.result c.from_residual.ensures.1
    (step_halts world s (set_is c.args.left) c.args.op (view_term c.args.right.now) c.in_err-other.field-0.0 (c.in_err-other.ensures world s seen))
