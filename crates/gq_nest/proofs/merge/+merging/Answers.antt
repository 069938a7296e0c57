use Rattle.std.proofs.Common.{◌≡◌, length, refl, ap, ◌∙◌, arith, rules}
use Rattle.std.specs.Map.Iter.{deref_pair}
use Rattle.std.proofs.lemmas.Map.Iter.{rest_more, rest_all}
use Rattle.gq_value.specs.Views.{val}
use Rattle.gq_nest.proofs.LevelLemmas.{opened-Map, opened-Group}
use Rattle.gq_nest.proofs.EntryLemmas.{value_there, value_new}
use Rattle.gq_nest.proofs.FeedSteps.{on_ok, on_any}
use Rattle.gq_nest.proofs.CopySteps.{value_rising}
use Rattle.gq_nest.proofs.MergeSteps.{merge_map, uniting_first, uniting_more, uniting_all, unites_none, no_entries}
use Rattle.gq_nest.specs.declared.content.Content.{out-Content}
use Rattle.gq_nest.specs.Forms.{Merges}
use Rattle.gq_nest.proofs.PartSteps.{midway_all, midway_next}
use Rattle.gq_nest.proofs.GroupLemmas.{group_there, group_new, group_rising}
use Rattle.gq_nest.proofs.GroupMerges.{merge_group, groups_first, groups_more, groups_all, groups_none, no_groups}
use Rattle.gq_nest.proofs.merge.+merging.Goals as goal

pub merge-returns-in-Map-clause-merged : goal.merge-returns-in-Map-clause-merged
merge-returns-in-Map-clause-merged t c = rw (c.in-Map.is, opened-Map c.in-Map.opening c.in-Map.entries) (on_ok _ (rw (c.get.ensures, c.in-Map.opening-is, c.in-Map.entries-is) at c.merge_entries.ensures) (merge_map _ _ _ _))

pub merge_entry-returns-in-Some : goal.merge_entry-returns-in-Some
merge_entry-returns-in-Some t c = on_ok _ c.merge.ensures.merged (value_there _ _ _ _ _ _ _ c.in-Some.ensures.value (c.get_mut.follows.holds c.merge.new.content).0)

pub merge_entry-returns-in_ok-duplicate-in-None : goal.merge_entry-returns-in_ok-duplicate-in-None
merge_entry-returns-in_ok-duplicate-in-None t c = on_ok _ (rw c.get_mut.follows.holds-at-none at c.put_entry.ensures) (value_new _ _ _ _ _ _ _ _ (ap val c.in_ok-duplicate-in-None.ensures) c.in-None.ensures.value c.in_ok-mine-in-None.ensures c.in_ok-merge-in-None.ensures.merged)

pub merge_entries-loop-key-init : goal.merge_entries-loop-key-init
merge_entries-loop-key-init t c = rw (c.in-Map.is, opened-Map c.in-Map.field-0 c.in-Map.more) (let e = c.into_iter-key-iterator.ensures.into_iter_gives in uniting_first _ _ _ _ e.0 (value_rising _ e.1))

pub merge_entries-loop-key-preserved : goal.merge_entries-loop-key-preserved
merge_entries-loop-key-preserved t c = uniting_more _ _ _ _ _ _ _ _ _ (rest_more deref_pair _ _ _ _ c.in-Some.is c.next.ensures.steps) c.in_ok-merge_entry-in-Map.ensures c.loop-key.invariant

pub merge_entries-returns-in-None : goal.merge_entries-returns-in-None
merge_entries-returns-in-None t c = uniting_all _ _ _ _ _ (rest_all deref_pair _ _ _ c.in-None.is c.next.ensures.steps) c.loop-key.invariant

pub merge-returns-in-Group-clause-merged : goal.merge-returns-in-Group-clause-merged
merge-returns-in-Group-clause-merged t c = rw (c.in-Group.is, opened-Group c.in-Group.openings c.in-Group.groups) (on_ok _ (rw (c.as_slice.ensures, c.get-in-Group.ensures, c.in-Group.openings-is, c.in-Group.groups-is) at c.merge_groups.ensures) (merge_group _ _ _ _))

pub merge_group-returns-in-Some : goal.merge_group-returns-in-Some
merge_group-returns-in-Some t c = on_ok _ c.merge_parts.ensures (group_there _ _ _ _ _ _ _ c.in-Some.ensures.value (c.get_mut.follows.holds c.merge_parts.new.mine).0)

pub merge_group-returns-in_ok-key_row-in-None : goal.merge_group-returns-in_ok-key_row-in-None
merge_group-returns-in_ok-key_row-in-None t c = on_ok _ (rw c.get_mut.follows.holds-at-none at c.put_entry.ensures) (group_new _ _ _ _ _ _ _ _ c.in_ok-key_row-in-None.ensures c.in-None.ensures.value c.in_ok-mine-in-None.ensures c.in_ok-merge_parts-in-None.ensures)

pub merge_parts-loop-i-preserved : goal.merge_parts-loop-i-preserved
merge_parts-loop-i-preserved t c = midway_next (λ x p z. Merges (out-Content x) (out-Content p) (out-Content z)) _ _ _ _ _ _ _ _ (search rules) c.index-parts-i.is c.at_mut.ensures.value c.in_ok-merge.ensures.merged refl c.loop-i.invariant

pub merge_parts-returns : goal.merge_parts-returns
merge_parts-returns t c =
    let end : c.loop-i.i ≡ length c.args.parts.now = omega (arith, c.loop-i-test.false, c.loop-i.auto.i-end) in
    λ as_many. midway_all (λ x p z. Merges (out-Content x) (out-Content p) (out-Content z)) _ _ _ _ end (c.if-parts-len.false ∙ c.len.ensures) c.loop-i.invariant.1

pub merge_groups-loop-row-init : goal.merge_groups-loop-row-init
merge_groups-loop-row-init t c = rw (c.in-Group.is, opened-Group c.in-Group.field-0 c.in-Group.more) (let e = c.into_iter-row-iterator.ensures.into_iter_gives in groups_first _ _ _ _ e.0 (group_rising _ e.1))

pub merge_groups-loop-row-preserved : goal.merge_groups-loop-row-preserved
merge_groups-loop-row-preserved t c = groups_more _ _ _ _ _ _ _ _ _ _ (rest_more deref_pair _ _ _ _ c.in-Some.is c.next.ensures.steps) c.as_slice-in-loop-row.ensures.value (rw c.as_slice.ensures at c.in_ok-merge_group-in-Group.ensures) c.loop-row.invariant

pub merge_groups-returns-in-None : goal.merge_groups-returns-in-None
merge_groups-returns-in-None t c = groups_all _ _ _ _ _ (rest_all deref_pair _ _ _ c.in-None.is c.next.ensures.steps) c.loop-row.invariant

pub merge_entries-returns-in_default : goal.merge_entries-returns-in_default
merge_entries-returns-in_default t c = on_any c.passed.result (unites_none _ _ _ (no_entries c.args.other.now c.in_default.not-Map))

pub merge_groups-returns-in_default : goal.merge_groups-returns-in_default
merge_groups-returns-in_default t c = on_any c.passed.result (groups_none _ _ _ (no_groups c.args.other.now c.in_default.not-Group))
