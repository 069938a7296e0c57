use Rattle.std.proofs.Common.{◌+◌, ◌*◌, ◌++◌}
use Rattle.gq_value.specs.AccumViews.{accum_of}
use Rattle.gq_nest.specs.declared.content.Content.{size-Content}
use Rattle.gq_rules_calendar.specs.Gregorian.{gregorian}
use Rattle.gq_eval_operand.specs.Meant.{keys_are, parts_are}
use Rattle.gq_eval_context.specs.Looks.{world_over}
use Rattle.gq_output.specs.Printed.{part_kinds, parts_shown}
use Rattle.gq_output.proofs.ContentLemmas.{Entries, Groups, PartsFrom}
use Rattle.gq_output.proofs.contents.+contents.Given as goal

abbrev pub decreases-out_content : goal.decreases-out_content
decreases-out_content l = 4 * size-Content l.content.now + 1

abbrev pub decreases-entries : goal.decreases-entries
decreases-entries l = 4 * size-Content l.content.now

abbrev pub decreases-groups : goal.decreases-groups
decreases-groups l = 4 * size-Content l.content.now

abbrev pub decreases-group : goal.decreases-group
decreases-group l = 4 * goal.size-group l + 3

abbrev pub decreases-put_parts : goal.decreases-put_parts
decreases-put_parts l = 4 * goal.size-put_parts l + 2

abbrev pub invariant-entries-loop-key : goal.invariant-entries-loop-key
invariant-entries-loop-key l = Entries (world_over gregorian l.over) (accum_of l.kind) l.content l.members l.key-iterator

abbrev pub invariant-groups-loop-row : goal.invariant-groups-loop-row
invariant-groups-loop-row l = Groups (world_over gregorian l.over) (keys_are l.shape) (parts_are l.shape) l.content l.outs l.row-iterator

abbrev pub invariant-put_parts-loop-place : goal.invariant-put_parts-loop-place
invariant-put_parts-loop-place l =
    PartsFrom (world_over gregorian l.over) l.kinds l.parts (l.fn.members ++ parts_shown (world_over gregorian l.over) (part_kinds l.kinds) l.parts) l.members l.place
