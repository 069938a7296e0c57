use Rattle.std.proofs.Common.{◌≡◌, drop}
use Rattle.std.specs.Str.{bytes_eq}
use Rattle.std.specs.Option.{option_copied}
use Rattle.gq_rules_typing.specs.SelectViews.{view_act, view_acts}
use Rattle.gq_rules_typing.specs.Patterns.{is_alias}
use Rattle.gq_rules_typing.specs.Mentions.{in_act, in_acts, in_choices}
use Rattle.gq_check_select.specs.Trees.{view_choices}
use Rattle.gq_check_select.proofs.mentions.+act_mentions.Given as goal

abbrev pub invariant-in_acts-loop-act : goal.invariant-in_acts-loop-act
invariant-in_acts-loop-act l =
    let is = is_alias bytes_eq (option_copied l.alias) in in_acts is (view_acts l.acts) ≡ in_acts is (view_acts (drop l.act-index l.acts))

abbrev pub invariant-in_any_act-loop-branch : goal.invariant-in_any_act-loop-branch
invariant-in_any_act-loop-branch l =
    let is = is_alias bytes_eq (option_copied l.alias) in
    in_act is (view_act l.act) ≡ in_choices is (view_choices (drop l.branch-index l.branch-items) l.others)
