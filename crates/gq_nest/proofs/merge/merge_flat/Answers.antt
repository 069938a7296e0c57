use Rattle.gq_nest.proofs.LevelLemmas.{opened-Scalar, opened-Set, opened-Bag, opened-List, opened-Heap}
use Rattle.gq_nest.proofs.FeedSteps.{on_ok}
use Rattle.gq_nest.proofs.MergeSteps.{merge_scalar, merge_set, merge_bag, merge_list, merge_heap}
use Rattle.gq_nest.proofs.merge.merge_flat.Goals as goal

pub returns-in-Scalar-other-clause-merged : goal.returns-in-Scalar-other-clause-merged
returns-in-Scalar-other-clause-merged c = rw (c.in-Scalar.is, opened-Scalar c.in-Scalar.mine, c.in-Scalar-other.is, opened-Scalar c.in-Scalar-other.theirs) (merge_scalar _ _ _ (rw c.in-Scalar.mine-is at c.merge.ensures.kept) (rw c.in-Scalar.mine-is at c.merge.ensures.joined))

pub returns-in-Set-other-clause-merged : goal.returns-in-Set-other-clause-merged
returns-in-Set-other-clause-merged c = rw (c.in-Set.is, opened-Set c.in-Set.keys, c.in-Set-other.is, opened-Set c.in-Set-other.more) (on_ok _ (rw c.in-Set.keys-is at c.add_keys.ensures) (merge_set _ _ _))

pub returns-in-Bag-other-clause-merged : goal.returns-in-Bag-other-clause-merged
returns-in-Bag-other-clause-merged c = rw (c.in-Bag.is, opened-Bag c.in-Bag.items, c.in-Bag-other.is, opened-Bag c.in-Bag-other.more) (on_ok _ (rw (c.as_slice.ensures, c.in-Bag.items-is) at c.add_items.ensures) (merge_bag _ _ _))

pub returns-in-List-other-clause-merged : goal.returns-in-List-other-clause-merged
returns-in-List-other-clause-merged c = rw (c.in-List.is, opened-List c.in-List.items, c.in-List-other.is, opened-List c.in-List-other.more) (on_ok _ (rw (c.as_slice-in-List-other.ensures, c.in-List.items-is) at c.add_items-in-List-other.ensures) (merge_list _ _ _))

pub returns-in-Heap-other-clause-merged : goal.returns-in-Heap-other-clause-merged
returns-in-Heap-other-clause-merged c = rw (c.in-Heap.is, opened-Heap c.in-Heap.heap, c.in-Heap-other.is, opened-Heap c.in-Heap-other.more) (on_ok _ (rw (c.as_slice-in-Heap-other.ensures, c.in-Heap.heap-is) at c.add_all.ensures) (merge_heap _ _ _))
