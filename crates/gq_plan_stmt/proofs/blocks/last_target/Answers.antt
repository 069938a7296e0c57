use Rattle.std.proofs.Common.{◌∙◌, ap, sym, Option}
use Rattle.std.specs.Option.{option_map}
use Rattle.gq_tree.specs.declared.select.StepTree.{StepTree}
use Rattle.gq_rules_typing.specs.SelectViews.{view_step}
use Rattle.gq_plan_stmt.specs.Parts.{last_target}
use Rattle.gq_plan_stmt.proofs.LastLemmas.{last_is}
use Rattle.gq_plan_stmt.proofs.blocks.last_target.Goals as goal

pub returns-in-Some : goal.returns-in-Some
returns-in-Some c =
    c.text_of.ensures ∙ ap (λ (o : Option StepTree). last_target (option_map view_step o)) c.in-Some.ensures.value ∙ ap last_target (sym (last_is c.args.list.now))
