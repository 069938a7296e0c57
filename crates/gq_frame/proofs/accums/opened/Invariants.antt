use Rattle.gq_frame.proofs.OpenSteps.{OpenTo}
use Rattle.gq_frame.proofs.accums.opened.Given as goal

-- all targets of the slots that were gone over stand open
abbrev pub invariant-loop-slot : goal.invariant-loop-slot
invariant-loop-slot l = OpenTo l.slots l.slot-index 0 l.contents

-- and as many of the next one
abbrev pub invariant-loop : goal.invariant-loop
invariant-loop l = OpenTo l.slots l.slot-index l.counter l.contents
