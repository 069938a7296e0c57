use Rattle.gq_rules_meaning.specs.Sets.{term_of}
use Rattle.gq_plan_ir.specs.PlanView.{view_term}
use Rattle.gq_exec_vars.specs.Written.{typed, set_is, others_of, chain_of}
use Rattle.gq_exec_vars.proofs.SetLemmas.{halts_on, chain_halts, chain_stops}
use Rattle.gq_exec_vars.proofs.expression.chain.Goals as goal

pub returns-in_err-set : goal.returns-in_err-set
returns-in_err-set c = λ world s seen.
    halts_on typed (chain_of world s (term_of world s (view_term c.args.first.now)) (others_of c.args.others.now)) c.in_err-set.field-0.0 c.from_residual.result c.from_residual.ensures.1
    (chain_halts world s (term_of world s (view_term c.args.first.now)) c.in_err-set.field-0.0 (others_of c.args.others.now) (c.in_err-set.ensures world s seen))

pub returns-in_err-step : goal.returns-in_err-step
returns-in_err-step c = λ world s seen.
    halts_on typed (chain_of world s (term_of world s (view_term c.args.first.now)) (others_of c.args.others.now)) c.in_err-step.field-0.0 c.from_residual-in_err-step.result c.from_residual-in_err-step.ensures.1
    (chain_stops world s (chain_of world s (term_of world s (view_term c.args.first.now)) (others_of c.args.others.now)) (set_is c.loop-other.set) c.in_err-step.field-0.0 c.args.others.now c.loop-other.other-index c.other-item.result
    c.loop-other-test.true c.other-item.is (c.loop-other.invariant world s seen) (c.in_err-step.ensures world s seen))
