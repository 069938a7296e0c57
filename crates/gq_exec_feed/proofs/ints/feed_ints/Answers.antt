use Rattle.std.proofs.Common.{rules}
use Rattle.gq_exec_feed.proofs.BatchLemmas.{ints_more}
use Rattle.gq_exec_feed.proofs.ints.feed_ints.Goals as goal

pub loop-target-preserved : goal.loop-target-preserved
loop-target-preserved c = ints_more _ _ _ _ _ _ (search rules) (search rules) c.in_ok-feed_int.ensures c.loop-target.invariant
