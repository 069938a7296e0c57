use Rattle.std.proofs.Common.{◌≡◌, map, take, length}
use Rattle.gq_schema.specs.Members as spec
use Rattle.gq_schema.proofs.members.listed.Given as goal

abbrev pub invariant-loop-member : goal.invariant-loop-member
invariant-loop-member l = l.marks.items ≡ map (spec.is_listed l.table (take l.member-index l.members)) (spec.below (length l.table))
