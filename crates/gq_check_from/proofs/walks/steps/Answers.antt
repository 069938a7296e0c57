use Rattle.std.proofs.Common.{rules, ◌∙◌, ◌+◌, ap, map, drop}
use Rattle.gq_rules_typing.specs.Statements.{Bytes}
use Rattle.gq_rules_typing.specs.Judging.{Judged, ◌>>=◌}
use Rattle.gq_rules_typing.specs.Scopes.{Scope}
use Rattle.gq_rules_typing.specs.SelectTypes.{typing_steps}
use Rattle.gq_rules_typing.specs.SelectViews.{view_step}
use Rattle.gq_scope.specs.Held.{scope_in}
use Rattle.gq_check_from.proofs.GrowLemmas.{grows_on}
use Rattle.gq_check_from.proofs.ScopeLemmas.{judged_by}
use Rattle.gq_check_from.proofs.StepLemmas.{steps_at}
use Rattle.gq_check_from.proofs.walks.steps.Goals as goal

pub returns-in_err-step-clause-judged : goal.returns-in_err-step-clause-judged
returns-in_err-step-clause-judged c =
    judged_by _ _ _ c.from_residual.result
    (c.loop-place.invariant.0 ∙ steps_at (scope_in c.loop-place.scope) c.args.ends.now c.args.list.now c.loop-place.place c.index-list-place.result c.loop-place-test.true c.index-list-place.is)
    (search rules)

pub loop-place-preserved : goal.loop-place-preserved
loop-place-preserved c = (
  c.loop-place.invariant.0 ∙ steps_at (scope_in c.loop-place.scope) c.args.ends.now c.args.list.now c.loop-place.place c.index-list-place.result c.loop-place-test.true c.index-list-place.is
      ∙ ap (λ (j : Judged (Scope Bytes)). j >>= λ s. typing_steps s c.args.ends.now (map view_step (drop (c.loop-place.place + 1) c.args.list.now))) c.in_ok-step.ensures.judged,
  grows_on c.args.scope.now c.loop-place.scope c.step.new.scope c.loop-place.invariant.1 c.in_ok-step.ensures.grows,
)
