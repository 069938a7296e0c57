use Rattle.std.proofs.Common.{◌≡◌, take}
use Rattle.gq_frame.proofs.slots.Slots.duplicate.Given as goal

-- as many slots as were gone over are copied
abbrev pub invariant-loop-slot : goal.invariant-loop-slot
invariant-loop-slot l = l.declared ≡ take l.slot-index l.slot-items
