use Rattle.std.proofs.Common.{length}
use Rattle.gq_base.specs.Keys.{number_of, numbers_of, links_of}
use Rattle.gq_base.specs.KeySlots.{IsPassed}
use Rattle.gq_base.proofs.key_slots.seek.Given as goal

abbrev pub invariant-loop-place : goal.invariant-loop-place
invariant-loop-place l = IsPassed (length l.slots) (number_of l.key) l.place (numbers_of l.slots) (links_of l.slots)
