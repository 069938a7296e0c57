use Rattle.std.proofs.Common.{Bool, cond, map, Err, sym, subst, ◌∙◌}
use Rattle.gq_diagnostics.specs.declared.refusal.Refusal.TheVariants as refusal
use Rattle.gq_scope.specs.Held.{Held, graph_in, sorts_in}
use Rattle.gq_rules_typing.specs.Sorts.{sorts_of}
use Rattle.gq_rules_typing.specs.StatementViews.{view_parameter}
use Rattle.gq_rules_meaning.specs.Arguments.{values_of}
use Rattle.gq_arguments.specs.Rows.{Gives, all_given, of_values}
use Rattle.gq_arguments.proofs.row.argument_row.Goals as goal

pub returns : goal.returns
unfolding sorts_in
returns c =
    let ps = map view_parameter c.args.parameters.now in
    let all = all_given ps c.args.arguments in
    let P : Held → Type 0 = λ h. Gives (of_values (values_of (sorts_in h) c.args.vertices.now ps all)) c.fill.result in
    let Q : Bool → Type 0 = λ b. Gives (cond b (Err refusal.WrongArguments)
    (of_values (values_of (sorts_of c.args.catalog.now (graph_in c.args.catalog.now c.args.graph)) c.args.vertices.now ps all))) c.fill.result in
    subst Q (sym c.if-wrong_number.false ∙ c.wrong_number.ensures) (subst P c.new-types.ensures c.fill.ensures)
