use Rattle.gq_exec_post.specs.Phases.{to_target}
use Rattle.gq_exec_post.proofs.PhaseLemmas.{RunTo}
use Rattle.gq_exec_post.proofs.phases.run_of.Given as goal

abbrev pub invariant-loop-place : goal.invariant-loop-place
invariant-loop-place l = RunTo (to_target l.ends l.selects) l.target l.acts l.place
