use Rattle.std.proofs.Common.{◌≡◌, length, refl, ap, ◌∙◌, arith, rules}
use Rattle.gq_value.specs.Views.{val}
use Rattle.gq_value.proofs.AccumLemmas.{given-One, given-Keyed}
use Rattle.gq_nest.proofs.LevelLemmas.{opened-Scalar, opened-Set, opened-Bag, opened-List, opened-Heap, opened-Map, opened-Group}
use Rattle.gq_nest.proofs.EntryLemmas.{value_there, value_new, one_item}
use Rattle.gq_nest.proofs.FeedSteps.{on_ok, feed_keyed, feed_unkeyed, feed_other_key, feed_other_inputs}
use Rattle.gq_value.specs.AccumViews.{given}
use Rattle.gq_nest.specs.declared.content.Content.{out-Content}
use Rattle.gq_nest.specs.Forms.{Feeds}
use Rattle.gq_nest.proofs.PartSteps.{midway_all, midway_next, steps_map}
use Rattle.gq_nest.proofs.GroupLemmas.{group_there, group_new}
use Rattle.gq_nest.proofs.GroupSteps.{feed_group}
use Rattle.gq_nest.proofs.feed.+feeding.Goals as goal

pub feed-returns-in-One-clause-fed : goal.feed-returns-in-One-clause-fed
feed-returns-in-One-clause-fed t c = rw (c.in-One.is, given-One c.in-One.value) c.feed_one.ensures.fed

pub feed-returns-in-len1-as_slice-clause-fed : goal.feed-returns-in-len1-as_slice-clause-fed
feed-returns-in-len1-as_slice-clause-fed t c = rw (c.in-Map.is, opened-Map c.in-Map.opening c.in-Map.entries, c.in-Keyed.is, given-Keyed c.in-Keyed.row c.in-Keyed.inputs)
    (on_ok _ (rw (c.get.ensures, c.in-Map.opening-is, c.in-Map.entries-is) at c.feed_entry.ensures) (feed_keyed _ _ _ _ _ _ _
    (one_item _ _ _ c.as_slice.ensures c.in-len1.len_at_least c.in-len1.len_below c.key-item.is)
    (one_item _ _ _ c.as_slice-in-len1.ensures c.in-len1-as_slice.len_at_least c.in-len1-as_slice.len_below c.input-item.is)))

pub feed-returns-in-empty-as_slice-clause-fed : goal.feed-returns-in-empty-as_slice-clause-fed
feed-returns-in-empty-as_slice-clause-fed t c = rw (c.in-Map.is, opened-Map c.in-Map.opening c.in-Map.entries, c.in-Keyed.is, given-Keyed c.in-Keyed.row c.in-Keyed.inputs)
    (feed_other_inputs _ _ _ _ _ c.as_slice-in-len1.ensures (λ one. omega (arith, c.in-empty-as_slice.len_below)))

pub feed-returns-in-empty-as_slice-2-clause-fed : goal.feed-returns-in-empty-as_slice-2-clause-fed
feed-returns-in-empty-as_slice-2-clause-fed t c = rw (c.in-Map.is, opened-Map c.in-Map.opening c.in-Map.entries, c.in-Keyed.is, given-Keyed c.in-Keyed.row c.in-Keyed.inputs)
    (feed_other_inputs _ _ _ _ _ c.as_slice-in-len1.ensures (λ one. omega (arith, c.in-empty-as_slice.len_at_least)))

pub feed-returns-in-empty-clause-fed : goal.feed-returns-in-empty-clause-fed
feed-returns-in-empty-clause-fed t c = rw (c.in-Map.is, opened-Map c.in-Map.opening c.in-Map.entries, c.in-Keyed.is, given-Keyed c.in-Keyed.row c.in-Keyed.inputs)
    (feed_other_key _ _ _ _ _ c.as_slice.ensures (λ one. omega (arith, c.in-empty.len_below)))

pub feed-returns-in-empty-2-clause-fed : goal.feed-returns-in-empty-2-clause-fed
feed-returns-in-empty-2-clause-fed t c = rw (c.in-Map.is, opened-Map c.in-Map.opening c.in-Map.entries, c.in-Keyed.is, given-Keyed c.in-Keyed.row c.in-Keyed.inputs)
    (feed_other_key _ _ _ _ _ c.as_slice.ensures (λ one. omega (arith, c.in-empty.len_at_least)))

pub feed-returns-in-Scalar-clause-fed : goal.feed-returns-in-Scalar-clause-fed
feed-returns-in-Scalar-clause-fed t c = rw (c.in-Scalar.is, opened-Scalar c.in-Scalar.field-0, c.in-Keyed.is, given-Keyed c.in-Keyed.row c.in-Keyed.inputs) (feed_unkeyed _ _ _ refl)

pub feed-returns-in-Set-clause-fed : goal.feed-returns-in-Set-clause-fed
feed-returns-in-Set-clause-fed t c = rw (c.in-Set.is, opened-Set c.in-Set.field-0, c.in-Keyed.is, given-Keyed c.in-Keyed.row c.in-Keyed.inputs) (feed_unkeyed _ _ _ refl)

pub feed-returns-in-Bag-clause-fed : goal.feed-returns-in-Bag-clause-fed
feed-returns-in-Bag-clause-fed t c = rw (c.in-Bag.is, opened-Bag c.in-Bag.field-0, c.in-Keyed.is, given-Keyed c.in-Keyed.row c.in-Keyed.inputs) (feed_unkeyed _ _ _ refl)

pub feed-returns-in-List-clause-fed : goal.feed-returns-in-List-clause-fed
feed-returns-in-List-clause-fed t c = rw (c.in-List.is, opened-List c.in-List.field-0, c.in-Keyed.is, given-Keyed c.in-Keyed.row c.in-Keyed.inputs) (feed_unkeyed _ _ _ refl)

pub feed-returns-in-Heap-clause-fed : goal.feed-returns-in-Heap-clause-fed
feed-returns-in-Heap-clause-fed t c = rw (c.in-Heap.is, opened-Heap c.in-Heap.field-0, c.in-Keyed.is, given-Keyed c.in-Keyed.row c.in-Keyed.inputs) (feed_unkeyed _ _ _ refl)

pub feed_entry-returns-in-Some : goal.feed_entry-returns-in-Some
feed_entry-returns-in-Some t c = on_ok _ c.feed.ensures.fed (value_there _ _ _ _ _ _ _ c.in-Some.ensures.value (c.get_mut.follows.holds c.feed.new.content).0)

pub feed_entry-returns-in_ok-duplicate-in-None : goal.feed_entry-returns-in_ok-duplicate-in-None
feed_entry-returns-in_ok-duplicate-in-None t c = on_ok _ (rw c.get_mut.follows.holds-at-none at c.put_entry.ensures) (value_new _ _ _ _ _ _ _ _ (ap val c.in_ok-duplicate-in-None.ensures) c.in-None.ensures.value c.in_ok-part-in-None.ensures c.in_ok-feed-in-None.ensures.fed)

pub feed-returns-in-Group-clause-fed : goal.feed-returns-in-Group-clause-fed
feed-returns-in-Group-clause-fed t c = rw (c.in-Group.is, opened-Group c.in-Group.openings c.in-Group.groups, c.in-Keyed.is, given-Keyed c.in-Keyed.row c.in-Keyed.inputs)
    (on_ok _ (rw (c.as_slice-in-Group.ensures, c.as_slice-in-Group-2.ensures, c.get-in-Group.ensures, c.as_slice-in-Group-3.ensures, c.in-Group.openings-is, c.in-Group.groups-is) at c.feed_group.ensures) (feed_group _ _ _ _ _))

pub feed_group-returns-in-Some : goal.feed_group-returns-in-Some
feed_group-returns-in-Some t c = on_ok _ c.feed_parts.ensures (group_there _ _ _ _ _ _ _ c.in-Some.ensures.value (c.get_mut.follows.holds c.feed_parts.new.parts).0)

pub feed_group-returns-in_ok-key_row-in-None : goal.feed_group-returns-in_ok-key_row-in-None
feed_group-returns-in_ok-key_row-in-None t c = on_ok _ (rw c.get_mut.follows.holds-at-none at c.put_entry.ensures) (group_new _ _ _ _ _ _ _ _ c.in_ok-key_row-in-None.ensures c.in-None.ensures.value c.in_ok-parts-in-None.ensures c.in_ok-feed_parts-in-None.ensures)

pub feed_parts-returns : goal.feed_parts-returns
feed_parts-returns t c = λ as_many.
    let end : c.loop-i.i ≡ length c.args.inputs.now = omega (arith, c.loop-i-test.false, c.loop-i.auto.i-end) in
    steps_map (λ x g z. Feeds (out-Content x) g (out-Content z)) given _ _ _
    (midway_all (λ x g z. Feeds (out-Content x) (given g) (out-Content z)) _ _ _ _ end (c.if-inputs-len.false ∙ c.len.ensures) c.loop-i.invariant.1)

pub feed_parts-loop-i-preserved : goal.feed_parts-loop-i-preserved
feed_parts-loop-i-preserved t c = midway_next (λ x g z. Feeds (out-Content x) (given g) (out-Content z)) _ _ _ _ _ _ _ _ (search rules) c.index-inputs-i.is c.at_mut.ensures.value c.in_ok-feed.ensures.fed refl c.loop-i.invariant
