use Rattle.gq_frame.proofs.TargetLemmas.{CountsTo}
use Rattle.gq_frame.proofs.slots.Slots.target.Given as goal

-- the targets of the slots that were gone over are counted
abbrev pub invariant-loop-before : goal.invariant-loop-before
invariant-loop-before l = CountsTo l.self.vertices l.before-items l.before-index l.number
