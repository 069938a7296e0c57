use Rattle.std.proofs.Common.{◌≡◌, drop, map}
use Rattle.gq_rules_typing.specs.SelectViews.{view_step}
use Rattle.gq_rules_typing.specs.SelectTypes.{typing_steps}
use Rattle.gq_scope.specs.Held.{scope_in}
use Rattle.gq_check_from.specs.Faults.{Grows}
use Rattle.gq_check_from.proofs.walks.steps.Given as goal

abbrev pub invariant-loop-place : goal.invariant-loop-place
invariant-loop-place l =
    (typing_steps (scope_in l.fn.scope) l.ends (map view_step l.list) ≡ typing_steps (scope_in l.scope) l.ends (map view_step (drop l.place l.list)))
    × Grows l.fn.scope l.scope
