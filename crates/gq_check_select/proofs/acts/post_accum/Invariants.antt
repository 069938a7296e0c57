use Rattle.std.proofs.Common.{◌≡◌, drop}
use Rattle.std.specs.Option.{option_copied}
use Rattle.gq_rules_typing.specs.SelectViews.{view_acts}
use Rattle.gq_rules_typing.specs.ActTypes.{typing_post}
use Rattle.gq_scope.specs.Held.{scope_in}
use Rattle.gq_check_select.proofs.acts.post_accum.Given as goal

abbrev pub invariant-loop-item : goal.invariant-loop-item
invariant-loop-item l =
    typing_post (scope_in l.scope) (option_copied l.source) (option_copied l.target) 0 (view_acts l.list)
    ≡ typing_post (scope_in l.scope) (option_copied l.source) (option_copied l.target) l.total (view_acts (drop l.item-index l.list))
