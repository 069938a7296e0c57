use Rattle.std.proofs.Common.{◌+◌, ◌≡◌, ◌∷◌, [], List, map, ap, sym, subst, ◌∙◌}
use Rattle.std.specs.Prelude.{option_map}
use Rattle.std.proofs.lemmas.List.{map-append}
use Rattle.gq_value.specs.Val.{Val}
use Rattle.gq_value.specs.Views.{val}
use Rattle.gq_scope.specs.Held.{sorts_in}
use Rattle.gq_rules_typing.specs.StatementViews.{view_parameter}
use Rattle.gq_rules_meaning.specs.Arguments.{values_of}
use Rattle.gq_arguments.specs.Given.{view_given}
use Rattle.gq_arguments.specs.Rows.{all_given}
use Rattle.gq_arguments.proofs.RowLemmas.{behind, from, one_more, bad_one, parameter_at, told}
use Rattle.gq_arguments.proofs.row.fill.Goals as goal

pub returns-in-None : goal.returns-in-None
returns-in-None c =
    let sorts = sorts_in c.args.types.now in
    let ps = map view_parameter c.args.parameters.now in
    let all = all_given ps c.args.arguments in
    let p = c.index-parameters-place.result in
    let there = parameter_at c.args.parameters.now c.loop-place.place p c.loop-place-test.true c.index-parameters-place.is in
    told (values_of sorts c.args.vertices.now ps all) p.name c.as_str.result.now c.bad.result
    (bad_one sorts c.args.vertices.now ps all c.loop-place.place (view_parameter p) (view_given c.given_at-given.result) (map val c.loop-place.row)
    (values_of sorts c.args.vertices.now ps all) there (c.given_at-given.ensures ps there)
    (ap (option_map val) (sym c.in-None.is) ∙ c.in_ok-value.ensures) c.loop-place.invariant)
    c.as_str.ensures c.bad.ensures

pub loop-place-preserved : goal.loop-place-preserved
loop-place-preserved c =
    let sorts = sorts_in c.args.types.now in
    let ps = map view_parameter c.args.parameters.now in
    let all = all_given ps c.args.arguments in
    let p = c.index-parameters-place.result in
    let there = parameter_at c.args.parameters.now c.loop-place.place p c.loop-place-test.true c.index-parameters-place.is in
    let P : List Val → Type 0 = λ vs. values_of sorts c.args.vertices.now ps all ≡ behind vs (from sorts c.args.vertices.now ps all (c.loop-place.place + 1)) in
    subst P (sym (ap (map val) c.in_ok-push-in-Some.ensures.ok ∙ map-append val c.loop-place.row (c.in-Some.value ∷ [])))
    (one_more sorts c.args.vertices.now ps all c.loop-place.place (view_parameter p) (view_given c.given_at-given.result) (map val c.loop-place.row) (val c.in-Some.value)
    (values_of sorts c.args.vertices.now ps all) there (c.given_at-given.ensures ps there)
    (ap (option_map val) (sym c.in-Some.is) ∙ c.in_ok-value.ensures) c.loop-place.invariant)
