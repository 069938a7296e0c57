use Rattle.gq_exec_vars.proofs.FieldLemmas.{Written}
use Rattle.gq_exec_vars.proofs.fields.tuple_type.Given as goal

-- the names and types of the fields visited so far
abbrev pub invariant-loop-field : goal.invariant-loop-field
invariant-loop-field l = Written l.own l.fields l.field-index l.names l.types
