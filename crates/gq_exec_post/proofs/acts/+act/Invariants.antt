use Rattle.std.proofs.Common.{◌+◌, ◌*◌, map}
use Rattle.gq_rules_calendar.specs.Gregorian.{gregorian}
use Rattle.gq_frame.specs.Names.{alias_of}
use Rattle.gq_exec_post.proofs.ActLemmas.{ActsTo, Unwritten}
use Rattle.gq_exec_post.proofs.acts.+act.Given as goal

abbrev pub invariant-run_acts-loop-act : goal.invariant-run_acts-loop-act
invariant-run_acts-loop-act l = ActsTo gregorian l.over (map alias_of l.aliases) l.vertex l.acts l.fn.writing l.act-index l.writing

abbrev pub invariant-run_act-loop-branch : goal.invariant-run_act-loop-branch
invariant-run_act-loop-branch l = Unwritten gregorian l.over (map alias_of l.aliases) l.vertex l.leaves l.branch-items l.others l.fn.writing l.writing l.branch-index

-- ---- measures of the recursion; a list has a greater one than each of its items

abbrev pub decreases-run_acts : goal.decreases-run_acts
decreases-run_acts l = 8 * goal.size-run_acts l + 1

abbrev pub decreases-run_act : goal.decreases-run_act
decreases-run_act l = 8 * goal.size-run_act l
