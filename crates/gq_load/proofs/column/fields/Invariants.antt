use Rattle.std.proofs.Common.{◌≡◌, take, drop, map}
use Rattle.std.specs.Option.{option_copied}
use Rattle.gq_load.specs.Columns.{missing_name, field_of}
use Rattle.gq_load.proofs.column.fields.Given as goal

abbrev pub invariant-loop-column : goal.invariant-loop-column
invariant-loop-column l = record {
  names : missing_name (option_copied l.header) l.columns ≡ missing_name (option_copied l.header) (drop l.column-index l.columns);
  fields : l.fields ≡ map (field_of (option_copied l.header)) (take l.column-index l.columns);
}
