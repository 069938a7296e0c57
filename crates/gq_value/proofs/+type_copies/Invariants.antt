use Rattle.std.proofs.Common.{◌≡◌, take}
use Rattle.gq_value.proofs.+type_copies.Given as goal

-- the types visited so far are copied
abbrev pub invariant-kind_copies::duplicate_fields-loop-field : goal.invariant-kind_copies::duplicate_fields-loop-field
invariant-kind_copies::duplicate_fields-loop-field l = l.copy ≡ take l.field-index l.fields
