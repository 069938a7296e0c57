use Rattle.std.proofs.Common.{◌+◌, ◌*◌}
use Rattle.gq_exec_post.proofs.NamingLemmas.{FeedsTo}
use Rattle.gq_exec_post.proofs.act_mentions.+feed.Given as goal

abbrev pub invariant-feeds_name-loop-feed : goal.invariant-feeds_name-loop-feed
invariant-feeds_name-loop-feed l = FeedsTo l.place l.feeds l.feed-index

abbrev pub decreases-feeds_name : goal.decreases-feeds_name
decreases-feeds_name l = 8 * goal.size-feeds_name l + 1

abbrev pub decreases-feed_names : goal.decreases-feed_names
decreases-feed_names l = 8 * goal.size-feed_names l
