use Rattle.std.proofs.Common.{◌≡◌, IfOk, ap, sym, subst, ◌∙◌}
use Rattle.std.specs.Option.{option_map}
use Rattle.gq_value.specs.Views.{val}
use Rattle.gq_tree.specs.declared.query.BaseTree.{BaseTree}
use Rattle.gq_scope.specs.Held.{sorts_in}
use Rattle.gq_rules_typing.specs.StatementViews.{view_base}
use Rattle.gq_rules_meaning.specs.Arguments.{argument_value}
use Rattle.gq_arguments.specs.Given.{view_given}
use Rattle.gq_arguments.proofs.value.value_of.Goals as goal

pub returns-in-Int : goal.returns-in-Int
returns-in-Int c =
    c.int_value.ensures (sorts_in c.args.types.now) c.args.vertices.now
    ∙ ap (λ b. argument_value (sorts_in c.args.types.now) c.args.vertices.now (view_base b) (view_given c.args.given)) (sym c.in-Int.is)

pub returns-in-UInt : goal.returns-in-UInt
returns-in-UInt c =
    c.uint_value.ensures (sorts_in c.args.types.now) c.args.vertices.now
    ∙ ap (λ b. argument_value (sorts_in c.args.types.now) c.args.vertices.now (view_base b) (view_given c.args.given)) (sym c.in-UInt.is)

pub returns-in-Bool : goal.returns-in-Bool
returns-in-Bool c =
    c.truth_value.ensures (sorts_in c.args.types.now) c.args.vertices.now
    ∙ ap (λ b. argument_value (sorts_in c.args.types.now) c.args.vertices.now (view_base b) (view_given c.args.given)) (sym c.in-Bool.is)

pub returns-in-Text : goal.returns-in-Text
returns-in-Text c =
    let P : BaseTree → Type 0 = λ b. IfOk c.text_value.result (λ v. option_map val v ≡ argument_value (sorts_in c.args.types.now) c.args.vertices.now (view_base b) (view_given c.args.given)) in
    subst P (sym c.in-Text.is) (c.text_value.ensures (sorts_in c.args.types.now) c.args.vertices.now)
