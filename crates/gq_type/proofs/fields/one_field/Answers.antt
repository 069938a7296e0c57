use Rattle.std.proofs.Common.{◌≡◌, ◌<◌, ◌∙◌, ap, sym, length}
use Rattle.std.specs.Option.{option_map}
use Rattle.gq_scope.specs.Held.{setting_in}
use Rattle.gq_scope.specs.Views.{base_is}
use Rattle.gq_scope.specs.Parts.{type_field}
use Rattle.gq_type.proofs.FieldLemmas.{some_types, one_then, one_else}
use Rattle.gq_type.proofs.fields.one_field.Goals as goal

pub returns-then-all_have : goal.returns-then-all_have
returns-then-all_have c =
    let some : 0 < length c.args.types.now = some_types c.args.types.now c.is_empty.result c.is_empty.ensures c.if-is_empty.false in
    one_then (type_field (setting_in c.args.scope.now) c.args.edges c.args.name.now) c.args.types.now (base_is c.in-Some.base) c.all_have.result some
    (sym (ap (option_map base_is) c.in-Some.is) ∙ c.field_in.ensures) c.all_have.ensures c.if-all_have.true

pub returns-else-all_have : goal.returns-else-all_have
returns-else-all_have c =
    let some : 0 < length c.args.types.now = some_types c.args.types.now c.is_empty.result c.is_empty.ensures c.if-is_empty.false in
    one_else (type_field (setting_in c.args.scope.now) c.args.edges c.args.name.now) c.args.types.now (base_is c.in-Some.base) c.all_have.result some
    (sym (ap (option_map base_is) c.in-Some.is) ∙ c.field_in.ensures) c.all_have.ensures c.if-all_have.false
