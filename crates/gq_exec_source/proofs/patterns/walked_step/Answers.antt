use Rattle.gq_exec_source.proofs.PathLemmas.{step_is}
use Rattle.gq_exec_source.proofs.patterns.walked_step.Goals as goal

pub returns : goal.returns
returns c =
    step_is c.args.catalog.now c.args.plan.now c.args.step.now c.as_slice.result.now c.as_slice-2.result.now c.in_ok-edges.edges.items c.from_vec.result c.in_ok-targets.targets
    c.as_slice.ensures c.as_slice-2.ensures c.in_ok-edges.ensures c.from_vec.ensures c.in_ok-targets.ensures
