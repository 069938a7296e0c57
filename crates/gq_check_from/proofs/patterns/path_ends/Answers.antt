use Rattle.std.proofs.Common.{◌≡◌, ◌∙◌, ap, sym, subst, List, ℕ, Option}
use Rattle.std.specs.Prelude.{IfOk}
use Rattle.std.specs.Option.{option_map}
use Rattle.gq_tree.specs.declared.select.StepTree.{StepTree}
use Rattle.gq_rules_typing.specs.Statements.{Bytes}
use Rattle.gq_rules_typing.specs.Selecting.{Step}
use Rattle.gq_rules_typing.specs.SelectViews.{view_step}
use Rattle.gq_rules_typing.specs.Patterns.{of_last, path_step}
use Rattle.gq_scope.specs.Held.{setting_in}
use Rattle.gq_check_from.proofs.SortLemmas.{last_is}
use Rattle.gq_check_from.proofs.patterns.path_ends.Goals as goal

pub returns-in-Some : goal.returns-in-Some
returns-in-Some c =
    let ends : Step Bytes → List ℕ = λ s. (path_step (setting_in c.args.scope.now) s).targets in
    subst (λ (to : List ℕ). IfOk c.step_ends.result (λ l. l ≡ to))
    (ap (λ (o : Option StepTree). of_last ends (option_map view_step o)) c.in-Some.ensures.value ∙ ap (of_last ends) (sym (last_is c.args.steps.now)))
    c.step_ends.ensures
