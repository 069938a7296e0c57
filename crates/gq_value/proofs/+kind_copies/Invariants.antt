use Rattle.std.proofs.Common.{◌≡◌, take}
use Rattle.gq_value.proofs.+kind_copies.Given as goal

-- the parts visited so far are copied
abbrev pub invariant-kind_copies::duplicate_parts-loop-name : goal.invariant-kind_copies::duplicate_parts-loop-name
invariant-kind_copies::duplicate_parts-loop-name l = l.copy ≡ take l.name-index l.parts
