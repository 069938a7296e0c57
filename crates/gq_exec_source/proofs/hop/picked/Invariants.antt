use Rattle.std.proofs.Common.{◌≡◌, map, take}
use Rattle.gq_index.specs.Walks.{walk_at}
use Rattle.gq_exec_source.proofs.hop.picked.Given as goal

abbrev pub invariant-loop-place : goal.invariant-loop-place
invariant-loop-place l = l.all.items ≡ map (walk_at l.walks) (take l.place-index l.order)
