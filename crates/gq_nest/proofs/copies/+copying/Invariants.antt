use Rattle.std.proofs.Common.{◌+◌, ◌*◌, take}
use Rattle.gq_nest.specs.declared.content.Content.{size-Content, out-Content}
use Rattle.gq_nest.specs.Entries.{key_row, group_row}
use Rattle.gq_nest.specs.Forms.{Copies, CopyEach, entries_in, groups_in}
use Rattle.gq_nest.proofs.CopySteps.{Copying}
use Rattle.gq_nest.proofs.copies.+copying.Given as goal

abbrev pub decreases-duplicate : goal.decreases-duplicate
decreases-duplicate l = 4 * size-Content l.content.now + 1

abbrev pub decreases-duplicate_entries : goal.decreases-duplicate_entries
decreases-duplicate_entries l = 4 * size-Content l.content.now

abbrev pub decreases-duplicate_parts : goal.decreases-duplicate_parts
decreases-duplicate_parts l = 4 * goal.size-duplicate_parts l + 2

abbrev pub decreases-duplicate_groups : goal.decreases-duplicate_groups
decreases-duplicate_groups l = 4 * size-Content l.content.now

abbrev pub invariant-duplicate_entries-loop-key : goal.invariant-duplicate_entries-loop-key
invariant-duplicate_entries-loop-key l = Copying key_row (λ p c. Copies (out-Content p) (out-Content c)) (entries_in (out-Content l.content)) l.copy.entries l.key-iterator

-- as many parts as were gone over are copied
abbrev pub invariant-duplicate_parts-loop-part : goal.invariant-duplicate_parts-loop-part
invariant-duplicate_parts-loop-part l = CopyEach (take l.part-index l.parts) l.copy

abbrev pub invariant-duplicate_groups-loop-row : goal.invariant-duplicate_groups-loop-row
invariant-duplicate_groups-loop-row l = Copying group_row CopyEach (groups_in (out-Content l.content)) l.copy.entries l.row-iterator
