use Rattle.std.proofs.Common.{None}
use Rattle.gq_workers.specs.Rounds.{FeedsParts}
use Rattle.gq_workers.proofs.joining.feed_parts.Given as goal

abbrev pub invariant-loop-spot : goal.invariant-loop-spot
invariant-loop-spot l = FeedsParts l.parts l.fn.run l.run None
