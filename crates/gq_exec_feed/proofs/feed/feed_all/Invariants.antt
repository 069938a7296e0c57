use Rattle.gq_exec_feed.proofs.FeedLemmas.{SoFar}
use Rattle.gq_exec_feed.proofs.feed.feed_all.Given as goal

abbrev pub invariant-loop-target : goal.invariant-loop-target
invariant-loop-target l = SoFar l.initial.accums l.batch l.target-index l.accums
