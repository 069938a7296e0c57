use Rattle.std.proofs.Common.{◌≡◌, ◌+◌, ◌*◌, length}
use Rattle.gq_nest.specs.declared.content.Content.{size-Content, out-Content}
use Rattle.gq_nest.specs.Forms.{Merges, entries_in, groups_in}
use Rattle.gq_nest.proofs.MergeSteps.{Uniting}
use Rattle.gq_nest.proofs.PartSteps.{Midway}
use Rattle.gq_nest.proofs.GroupMerges.{UnitingGroups}
use Rattle.gq_nest.proofs.merge.+merging.Given as goal

abbrev pub decreases-merge : goal.decreases-merge
decreases-merge l = 6 * size-Content l.other.now + 2

abbrev pub decreases-merge_entries : goal.decreases-merge_entries
decreases-merge_entries l = 6 * size-Content l.other.now + 1

abbrev pub decreases-merge_entry : goal.decreases-merge_entry
decreases-merge_entry l = 6 * size-Content l.part.now + 3

abbrev pub decreases-merge_groups : goal.decreases-merge_groups
decreases-merge_groups l = 6 * size-Content l.other.now + 1

abbrev pub decreases-merge_group : goal.decreases-merge_group
decreases-merge_group l = 6 * goal.size-merge_group l + 4

abbrev pub decreases-merge_parts : goal.decreases-merge_parts
decreases-merge_parts l = 6 * goal.size-merge_parts l + 3

abbrev pub invariant-merge_entries-loop-key : goal.invariant-merge_entries-loop-key
invariant-merge_entries-loop-key l = Uniting l.opening l.initial.entries.entries (entries_in (out-Content l.other)) l.entries.entries l.key-iterator

-- the first parts are merged, and the others are as they were
abbrev pub invariant-merge_parts-loop-i : goal.invariant-merge_parts-loop-i
invariant-merge_parts-loop-i l = (length l.mine ≡ length l.initial.mine) × Midway (λ c p d. Merges (out-Content c) (out-Content p) (out-Content d)) l.i l.initial.mine l.parts l.mine

abbrev pub invariant-merge_groups-loop-row : goal.invariant-merge_groups-loop-row
invariant-merge_groups-loop-row l = UnitingGroups l.openings l.initial.groups.entries (groups_in (out-Content l.other)) l.groups.entries l.row-iterator
