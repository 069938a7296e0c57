use Rattle.gq_nest.proofs.LevelLemmas.{opened-Scalar, opened-Set, opened-Bag, opened-List, opened-Heap}
use Rattle.gq_nest.proofs.FeedSteps.{on_ok, feed_scalar, feed_set, feed_bag, feed_list, feed_heap}
use Rattle.gq_nest.proofs.feed.feed_one.Goals as goal

pub returns-in-Scalar-clause-fed : goal.returns-in-Scalar-clause-fed
returns-in-Scalar-clause-fed c = rw (c.in-Scalar.is, opened-Scalar c.in-Scalar.scalar) (feed_scalar _ _ _ (rw c.in-Scalar.scalar-is at c.feed.ensures.kept) (rw c.in-Scalar.scalar-is at c.feed.ensures.fed))

pub returns-in-Set-clause-fed : goal.returns-in-Set-clause-fed
returns-in-Set-clause-fed c = rw (c.in-Set.is, opened-Set c.in-Set.keys) (on_ok _ (rw c.in-Set.keys-is at c.add_key.ensures) (feed_set _ _ _))

pub returns-in-Bag-clause-fed : goal.returns-in-Bag-clause-fed
returns-in-Bag-clause-fed c = rw (c.in-Bag.is, opened-Bag c.in-Bag.items) (on_ok _ (rw c.in-Bag.items-is at c.add_item.ensures) (feed_bag _ _ _))

pub returns-in-List-clause-fed : goal.returns-in-List-clause-fed
returns-in-List-clause-fed c = rw (c.in-List.is, opened-List c.in-List.items) (on_ok _ (rw c.in-List.items-is at c.add_item-in-List.ensures) (feed_list _ _ _))

pub returns-in-Heap-clause-fed : goal.returns-in-Heap-clause-fed
returns-in-Heap-clause-fed c = rw (c.in-Heap.is, opened-Heap c.in-Heap.heap) (on_ok _ (rw c.in-Heap.heap-is at c.add.ensures) (feed_heap _ _ _))
