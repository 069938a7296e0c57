use Rattle.std.proofs.Common.{◌≡◌, drop}
use Rattle.gq_scope.specs.Held.{fields_of}
use Rattle.gq_scope.specs.Parts.{first_named}
use Rattle.gq_type.proofs.fields.tuple_field.Given as goal

abbrev pub invariant-loop-field : goal.invariant-loop-field
invariant-loop-field l = first_named (fields_of (drop l.field-index l.fields)) l.name ≡ first_named (fields_of l.fields) l.name
