use Rattle.std.proofs.Common.{◌≡◌, map, take}
use Rattle.gq_rules_typing.specs.Patterns.{path_step}
use Rattle.gq_plan_ir.specs.BlockView.{view_path_step}
use Rattle.gq_exec_source.specs.Ways.{step_of}
use Rattle.gq_exec_source.specs.Seen.{setting_for}
use Rattle.gq_exec_source.proofs.patterns.path_steps.Given as goal

abbrev pub invariant-loop-step : goal.invariant-loop-step
invariant-loop-step l = map step_of l.walked ≡ map (λ x. path_step (setting_for l.catalog l.plan) (view_path_step x)) (take l.step-index l.steps)
