use Rattle.std.proofs.Common.{◌∙◌, ap, sym, List, ℕ, Some, Option}
use Rattle.std.specs.Option.{option_copied, option_map}
use Rattle.gq_value.specs.declared.kind.BaseType.{BaseType}
use Rattle.gq_rules_typing.specs.Statements.{Bytes}
use Rattle.gq_rules_typing.specs.Words.{OfTupleType}
use Rattle.gq_scope.specs.Held.{fields_of}
use Rattle.gq_scope.specs.Parts.{first_named}
use Rattle.gq_type.proofs.FieldLemmas.{tuple_field_is}
use Rattle.gq_type.proofs.fields.tuple_type.Goals as goal

pub returns-in-Some : goal.returns-in-Some
returns-in-Some c =
    c.tuple_field.ensures ∙ ap (λ (l : List (Bytes × BaseType)). first_named (fields_of l) c.args.name.now) c.as_slice.ensures
    ∙ tuple_field_is c.args.scope.now (OfTupleType c.args.number) c.args.number c.args.name.now (Some (fields_of c.in-Some.fields.now))
    (sym (ap (λ o. option_map fields_of (option_copied o)) c.in-Some.is) ∙ c.tuple_at.ensures)
