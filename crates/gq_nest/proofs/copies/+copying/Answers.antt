use Rattle.std.proofs.Common.{ap, ◌∙◌, rules}
use Rattle.std.specs.Map.Iter.{deref_pair}
use Rattle.std.proofs.lemmas.Map.Iter.{rest_more, rest_all}
use Rattle.gq_value.specs.Views.{val}
use Rattle.gq_nest.specs.Entries.{key_row, group_row}
use Rattle.gq_nest.proofs.LevelLemmas.{opened-Set, opened-Map, opened-Group}
use Rattle.gq_nest.proofs.EntryLemmas.{value_puts}
use Rattle.gq_nest.proofs.CopySteps.{copies_set, copies_map, copying_first, copying_more, copying_all, value_rising}
use Rattle.gq_nest.specs.declared.content.Content.{out-Content}
use Rattle.gq_nest.specs.Forms.{Copies}
use Rattle.gq_nest.proofs.PartSteps.{pairs_next}
use Rattle.gq_nest.proofs.GroupLemmas.{group_puts, group_rising}
use Rattle.gq_nest.proofs.GroupSteps.{copies_group}
use Rattle.gq_nest.proofs.copies.+copying.Goals as goal

pub duplicate-returns-in_ok-add_keys-in-Set : goal.duplicate-returns-in_ok-add_keys-in-Set
duplicate-returns-in_ok-add_keys-in-Set t c = rw (c.in-Set.is, opened-Set c.in-Set.keys) (copies_set _ _ _ c.in_ok-copy-in-Set.ensures c.in_ok-add_keys-in-Set.ensures)

pub duplicate-returns-in_ok-new-in-Map : goal.duplicate-returns-in_ok-new-in-Map
duplicate-returns-in_ok-new-in-Map t c = rw (c.in-Map.is, opened-Map c.in-Map.opening c.in-Map.field-1) (copies_map _ _ _ _ ((rw (← c.in_ok-new-in-Map.ensures, c.get-in-Map.ensures) at c.in_ok-opening-in-Map.ensures)) (rw (c.in-Map.is, opened-Map c.in-Map.opening c.in-Map.field-1) at c.in_ok-copy-in-Map.ensures))

pub duplicate_entries-loop-key-init : goal.duplicate_entries-loop-key-init
duplicate_entries-loop-key-init t c = rw (c.in-Map.is, opened-Map c.in-Map.field-0 c.in-Map.entries) (let e = c.into_iter-key-iterator.ensures.into_iter_gives in copying_first key_row _ _ _ _ c.in_ok-copy-in-Map.ensures e.0 (value_rising _ e.1))

pub duplicate_entries-loop-key-preserved : goal.duplicate_entries-loop-key-preserved
duplicate_entries-loop-key-preserved t c = copying_more key_row _ _ _ _ _ _ _ _ _ (rest_more deref_pair _ _ _ _ c.in-Some.is c.next.ensures.steps) (value_puts _ _ _ _ _ (ap val c.in_ok-duplicate-in-Map.ensures) c.in_ok-put_entry-in-Map.ensures) c.in_ok-part-in-Map.ensures c.loop-key.invariant

pub duplicate_entries-returns : goal.duplicate_entries-returns
duplicate_entries-returns t c = copying_all key_row _ _ _ _ (rest_all deref_pair _ _ _ c.in-None.is c.next.ensures.steps) c.loop-key.invariant

pub duplicate_parts-loop-part-preserved : goal.duplicate_parts-loop-part-preserved
duplicate_parts-loop-part-preserved t c = pairs_next (λ x y. Copies (out-Content x) (out-Content y)) _ _ _ _ _ _ (search rules) c.part-item.is c.in_ok-duplicate.ensures c.in_ok-push.ensures.ok c.loop-part.invariant

pub duplicate-returns-in_ok-new-in-Group : goal.duplicate-returns-in_ok-new-in-Group
duplicate-returns-in_ok-new-in-Group t c = rw (c.in-Group.is, opened-Group c.in-Group.openings c.in-Group.field-1) (copies_group _ _ _ _ (rw (← c.in_ok-new-in-Group.ensures, c.as_slice-in-Group.ensures, c.get-in-Group.ensures) at c.in_ok-openings-in-Group.ensures) (rw (c.in-Group.is, opened-Group c.in-Group.openings c.in-Group.field-1) at c.in_ok-copy-in-Group.ensures))

pub duplicate_groups-loop-row-init : goal.duplicate_groups-loop-row-init
duplicate_groups-loop-row-init t c = rw (c.in-Group.is, opened-Group c.in-Group.field-0 c.in-Group.groups) (let e = c.into_iter-row-iterator.ensures.into_iter_gives in copying_first group_row _ _ _ _ c.in_ok-copy-in-Group.ensures e.0 (group_rising _ e.1))

pub duplicate_groups-loop-row-preserved : goal.duplicate_groups-loop-row-preserved
duplicate_groups-loop-row-preserved t c = copying_more group_row _ _ _ _ _ _ _ _ _ (rest_more deref_pair _ _ _ _ c.in-Some.is c.next.ensures.steps) (group_puts _ _ _ _ _ (c.in_ok-key_row-in-Group.ensures ∙ c.as_slice-in-loop-row.ensures.value) c.in_ok-put_entry-in-Group.ensures) (rw c.as_slice.ensures at c.in_ok-parts-in-Group.ensures) c.loop-row.invariant
