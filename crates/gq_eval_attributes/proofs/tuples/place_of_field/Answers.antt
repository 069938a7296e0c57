use Rattle.std.proofs.Common.{◌∙◌, ap, sym, List}
use Rattle.std.specs.Prelude.{codes}
use Rattle.gq_rules_typing.specs.Sorts.{names_of}
use Rattle.gq_rules_typing.specs.Statements.{Bytes}
use Rattle.gq_rules_typing.specs.Words.{OfTupleType, place_of}
use Rattle.gq_plan_ir.specs.References as references
use Rattle.gq_plan_ir.specs.ExprView.{field_of}
use Rattle.gq_plan_ir.specs.declared.expr.Field.{Field}
use Rattle.gq_eval_attributes.specs.Tuples.{fields_in}
use Rattle.gq_eval_attributes.proofs.TupleLemmas.{by_type_name}
use Rattle.gq_eval_attributes.proofs.tuples.place_of_field.Goals as goal

pub returns-in-Type : goal.returns-in-Type
returns-in-Type c =
    by_type_name c.args.of.now c.args.number c.name_place.result (c.name_place.ensures ∙ ap (λ (ns : List Bytes). place_of ns (codes "type")) c.as_slice.ensures)
    ∙ ap (λ (f : Field). references.field (OfTupleType c.args.number) (names_of (fields_in c.args.of.now)) (field_of f)) (sym c.in-Type.is)
