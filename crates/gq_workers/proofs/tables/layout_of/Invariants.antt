use Rattle.std.proofs.Common.{◌≡◌, take}
use Rattle.gq_workers.specs.Working.{kinds_from}
use Rattle.gq_workers.proofs.tables.layout_of.Given as goal

abbrev pub invariant-loop-slot : goal.invariant-loop-slot
invariant-loop-slot l = l.layout ≡ kinds_from l.slots.vertices (take l.slot-index l.slot-items)
