use Rattle.std.proofs.Common.{◌≡◌, drop}
use Rattle.gq_rules_typing.specs.Sorts.{attribute_fields}
use Rattle.gq_scope.specs.Parts.{first_named}
use Rattle.gq_type.proofs.fields.attribute_type.Given as goal

abbrev pub invariant-loop-attribute : goal.invariant-loop-attribute
invariant-loop-attribute l = first_named (attribute_fields (drop l.attribute-index l.attributes)) l.name ≡ first_named (attribute_fields l.attributes) l.name
