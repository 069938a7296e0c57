use Rattle.gq_rules_calendar.specs.Gregorian.{gregorian}
use Rattle.gq_frame.specs.Slots.{slots_are}
use Rattle.gq_eval_context.specs.Looks.{world_over}
use Rattle.gq_output.proofs.ItemLemmas.{MembersFrom}
use Rattle.gq_output.proofs.items.members.Given as goal

-- the members so far, followed by those of the expressions left
abbrev pub invariant-loop-keyed : goal.invariant-loop-keyed
invariant-loop-keyed g l = MembersFrom (world_over gregorian l.over) (g.V.Sees.look l.sight) (slots_are l.over.frame.accums) l.items l.keyed-index l.members
