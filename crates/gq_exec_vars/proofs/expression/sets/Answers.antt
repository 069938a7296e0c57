use Rattle.gq_plan_ir.specs.PlanView.{view_term}
use Rattle.gq_exec_vars.proofs.SetLemmas.{sets_chained}
use Rattle.gq_exec_vars.proofs.expression.sets.Goals as goal

pub returns : goal.returns
returns c = λ world s seen.
    sets_chained world s (view_term c.args.sets.now.first) c.args.sets.now.others c.as_slice.result.now c.is_bare.result c.chain.result c.is_bare.ensures c.if-is_bare.false c.as_slice.ensures (c.chain.ensures world s seen)
