-- Parts: the part of a group's row that a field names.
use Rattle.std.specs.Prelude.{codes}
use Rattle.gq_value.specs.Accums.{Parts}
use Rattle.gq_accum_laws.specs.Holds.{HoldsEach}
use Rattle.gq_rules_typing.specs.Statements.{Bytes}
use Rattle.gq_rules_typing.specs.Words.{place_of, names_of_parts}
use Rattle.gq_rules_meaning.specs.Answers.{◌>>=◌, found}
use Rattle.gq_rules_meaning.specs.Meanings.{Outcome}
use Rattle.gq_rules_meaning.specs.States.{part_at}
use Rattle.gq_plan_ir.specs.declared.expr.Field.{Field}
use Rattle.gq_plan_ir.specs.declared.expr.Field.TheVariants as field

-- the name that a field has; of tuples and group rows `type` is one as any other
abbrev pub name_in : Field → Bytes
name_in field.Type = codes "type"
name_in (field.Named places) = places.name

-- the part of a name
abbrev pub part_named : (ps : Parts) → HoldsEach ps → Bytes → Outcome
part_named ps cs name = found (place_of (names_of_parts ps) name) >>= part_at ps cs
