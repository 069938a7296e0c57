use Rattle.std.proofs.Common.{◌≡◌, take}
use Rattle.gq_after.proofs.limit.listed.Given as goal

abbrev pub invariant-loop-place : goal.invariant-loop-place
invariant-loop-place l = l.list ≡ take l.place l.vertices
