use Rattle.gq_exec_source.proofs.PathLemmas.{steps_all}
use Rattle.gq_exec_source.proofs.patterns.path_steps.Goals as goal

pub returns : goal.returns
returns c = steps_all c.args.catalog.now c.args.plan.now c.args.steps.now c.loop-step.step-index c.loop-step.walked c.loop-step-test.false c.loop-step.invariant
