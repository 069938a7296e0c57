use Rattle.std.proofs.Common.{rules, ◌∙◌, ◌+◌, ap, sym, subst, Bool, true, drop}
use Rattle.std.specs.Option.{option_copied, option_map}
use Rattle.gq_value.specs.AccumViews.{accum_of}
use Rattle.gq_rules_typing.specs.Judging.{Judged, ◌>>◌}
use Rattle.gq_rules_typing.specs.ActTypes.{kinds_of, typing_input, typing_inputs}
use Rattle.gq_rules_typing.specs.SelectViews.{view_input}
use Rattle.gq_scope.specs.Held.{names_in}
use Rattle.gq_check_from.specs.Faults.{Judges}
use Rattle.gq_check_select.specs.Trees.{view_inputs}
use Rattle.gq_check_select.proofs.InputLemmas.{parts_more}
use Rattle.gq_check_select.proofs.inputs.+inputs.Goals as goal

pub parts-returns-in_err-input : goal.parts-returns-in_err-input
parts-returns-in_err-input t c =
    let names = names_in c.args.scope.now in
    let kinds = kinds_of (option_map accum_of (option_copied c.args.kind)) in
    let rest = typing_inputs names (drop (c.loop-place.place + 1) kinds) (view_inputs (drop (c.loop-place.place + 1) c.args.inputs.now)) in
    subst (λ (j : Judged Bool). Judges {A = Bool} {B = Unit {0}} (λ _. true) j c.from_residual.result)
    (sym (c.loop-place.invariant ∙ parts_more names kinds c.args.inputs.now c.loop-place.place c.index-inputs-place.result c.loop-place-test.true c.index-inputs-place.is
    ∙ ap (λ o. typing_input names o (view_input c.index-inputs-place.result) >> rest) (sym c.part_at.ensures)))
    (search rules)

pub parts-loop-place-preserved : goal.parts-loop-place-preserved
parts-loop-place-preserved t c =
    let names = names_in c.args.scope.now in
    let kinds = kinds_of (option_map accum_of (option_copied c.args.kind)) in
    let rest = typing_inputs names (drop (c.loop-place.place + 1) kinds) (view_inputs (drop (c.loop-place.place + 1) c.args.inputs.now)) in
    c.loop-place.invariant ∙ parts_more names kinds c.args.inputs.now c.loop-place.place c.index-inputs-place.result c.loop-place-test.true c.index-inputs-place.is
    ∙ ap (λ o. typing_input names o (view_input c.index-inputs-place.result) >> rest) (sym c.part_at.ensures)
    ∙ ap (λ j. j >> rest) c.in_ok-input.ensures
