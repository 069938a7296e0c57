use Rattle.gq_index.specs.Ranges.{HoldWalks}
use Rattle.gq_index.proofs.ranges.joined.Given as goal

abbrev pub invariant-loop-range : goal.invariant-loop-range
invariant-loop-range l = HoldWalks l.types l.edges 0 l.whole
