use Rattle.std.proofs.Common.{◌+◌, ◌*◌}
use Rattle.gq_frame.specs.Slots.{slots_are}
use Rattle.gq_exec_contribute.specs.Gathered.{shown}
use Rattle.gq_exec_contribute.proofs.ActLemmas.{GatheredTo, ChosenTo}
use Rattle.gq_exec_contribute.proofs.acts.+act.Given as goal

abbrev pub invariant-run_acts-loop-act : goal.invariant-run_acts-loop-act
invariant-run_acts-loop-act g l = GatheredTo (g.V.Sees.look l.sight) (slots_are l.accums) l.acts (shown l.fn.before.items) l.act-index (shown l.gathered.items)

abbrev pub invariant-run_act-loop-branch : goal.invariant-run_act-loop-branch
invariant-run_act-loop-branch g l = ChosenTo (g.V.Sees.look l.sight) (slots_are l.accums) l.branch-items l.others l.branch-index

-- ---- measures of the recursion; a list has a greater one than each of its items

abbrev pub decreases-run_acts : goal.decreases-run_acts
decreases-run_acts g l = 8 * goal.size-run_acts g l + 1

abbrev pub decreases-run_act : goal.decreases-run_act
decreases-run_act g l = 8 * goal.size-run_act g l
