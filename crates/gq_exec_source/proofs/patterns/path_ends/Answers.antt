use Rattle.std.proofs.Common.{◌≡◌, ◌∙◌, ap, sym, subst, List, ℕ, Option}
use Rattle.std.specs.Prelude.{IfOk}
use Rattle.std.specs.Option.{option_map}
use Rattle.gq_rules_typing.specs.Selecting.{Step}
use Rattle.gq_rules_typing.specs.Patterns.{of_last, path_step}
use Rattle.gq_plan_ir.specs.declared.block.PathStep.{PathStep}
use Rattle.gq_plan_ir.specs.BlockView.{view_path_step}
use Rattle.gq_plan_ir.specs.Reference.{Reference}
use Rattle.gq_exec_source.specs.Seen.{setting_for}
use Rattle.gq_exec_source.proofs.StepLemmas.{last_is}
use Rattle.gq_exec_source.proofs.patterns.path_ends.Goals as goal

pub returns-in-Some : goal.returns-in-Some
returns-in-Some c =
    let ends : Step Reference → List ℕ = λ s. (path_step (setting_for c.args.catalog.now c.args.plan.now) s).targets in
    subst (λ (to : List ℕ). IfOk c.step_ends.result (λ l. l ≡ to))
    (ap (λ (o : Option PathStep). of_last ends (option_map view_path_step o)) c.in-Some.ensures.value ∙ ap (of_last ends) (sym (last_is c.args.steps.now)))
    c.step_ends.ensures
