use Rattle.gq_base.specs.Keys.{numbers_of}
use Rattle.gq_base.specs.KeySlots.{Holds}
use Rattle.gq_base.proofs.key_slots.place_all.Given as goal

abbrev pub invariant-loop-i : goal.invariant-loop-i
invariant-loop-i l = Holds l.slots l.i (numbers_of l.entries)
