use Rattle.std.proofs.Common.{◌≡◌, drop}
use Rattle.std.specs.Option.{option_copied, option_map}
use Rattle.gq_rules_typing.specs.ActTypes.{kinds_of, typing_inputs}
use Rattle.gq_scope.specs.Held.{names_in}
use Rattle.gq_value.specs.AccumViews.{accum_of}
use Rattle.gq_check_select.specs.Trees.{view_inputs}
use Rattle.gq_check_select.proofs.inputs.+inputs.Given as goal

abbrev pub invariant-parts-loop-place : goal.invariant-parts-loop-place
invariant-parts-loop-place l =
    typing_inputs (names_in l.scope) (kinds_of (option_map accum_of (option_copied l.kind))) (view_inputs l.inputs)
    ≡ typing_inputs (names_in l.scope) (drop l.place (kinds_of (option_map accum_of (option_copied l.kind)))) (view_inputs (drop l.place l.inputs))
