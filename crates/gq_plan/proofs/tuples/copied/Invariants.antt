use Rattle.std.proofs.Common.{◌≡◌, take}
use Rattle.gq_plan.proofs.tuples.copied.Given as goal

abbrev pub invariant-loop-field : goal.invariant-loop-field
invariant-loop-field l = l.list ≡ take l.field-index l.fields
