use Rattle.std.proofs.Common.{◌≡◌, ◌++◌, take}
use Rattle.gq_rules_calendar.specs.Gregorian.{gregorian}
use Rattle.gq_frame.specs.Slots.{slots_are}
use Rattle.gq_eval_context.specs.Looks.{world_over}
use Rattle.gq_output.specs.Vertices.{IsFirst, attached_shown}
use Rattle.gq_output.proofs.attributes.put_attached.Given as goal

-- the members of the slots so far, and the number of the next one's first target
abbrev pub invariant-loop-number : goal.invariant-loop-number
invariant-loop-number l =
    (l.members ≡ l.fn.members ++ attached_shown (world_over gregorian l.over) l.vertex (take l.number (slots_are l.over.frame.accums)))
    × IsFirst l.over.frame.accums.slots l.number l.first
