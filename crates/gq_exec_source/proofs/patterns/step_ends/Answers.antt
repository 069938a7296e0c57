use Rattle.gq_exec_source.proofs.StepLemmas.{step_open}
use Rattle.gq_exec_source.proofs.patterns.step_ends.Goals as goal

pub returns-in_ok-far-in-Every : goal.returns-in_ok-far-in-Every
returns-in_ok-far-in-Every c =
    step_open c.args.catalog.now c.args.plan.now c.args.step.now c.as_slice.result.now c.in_ok-far-in-Every.far.items c.as_slice-in-Every.result.now c.or_all.result c.in-Every.is c.as_slice.ensures c.in_ok-far-in-Every.ensures c.as_slice-in-Every.ensures c.or_all.ensures
