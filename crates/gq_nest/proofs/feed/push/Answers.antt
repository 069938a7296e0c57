use Rattle.gq_nest.proofs.LevelLemmas.{opened-List}
use Rattle.gq_nest.proofs.FeedSteps.{on_ok, feed_list}
use Rattle.gq_nest.proofs.feed.push.Goals as goal

pub returns-in-List-clause-pushed : goal.returns-in-List-clause-pushed
returns-in-List-clause-pushed c = rw (c.in-List.is, opened-List c.in-List.items) (on_ok _ (rw c.in-List.items-is at c.push_item.ensures) (feed_list _ _ _))
