use Rattle.std.proofs.Common.{take}
use Rattle.gq_load_check.specs.Placed.{LastPlaced}
use Rattle.gq_load_check.proofs.paths.last_places.Given as goal

abbrev pub invariant-loop-place : goal.invariant-loop-place
invariant-loop-place l = LastPlaced l.pairs (take l.place l.pairs) l.places
