use Rattle.std.proofs.Common.{◌+◌, ◌*◌, ◌≤◌, drop}
use Rattle.gq_rules_meaning.specs.Runs.{run, run_all, condition_of}
use Rattle.gq_rules_calendar.specs.Gregorian.{gregorian}
use Rattle.gq_plan_ir.specs.Reference.{Place}
use Rattle.gq_plan_ir.specs.ExprView.{view}
use Rattle.gq_plan_ir.specs.PlanView.{view_step, view_steps}
use Rattle.gq_frame.specs.Slots.{AreSound}
use Rattle.gq_exec_control.specs.Contexts.{world_on}
use Rattle.gq_exec_control.specs.Standing.{Goes}
use Rattle.gq_exec_control.specs.Values.{base_in, values_of}
use Rattle.gq_flow.specs.Bodies.{branches_from, goes_round, values_from}
use Rattle.gq_flow.proofs.LoopLemmas.{Rounding}
use Rattle.gq_flow.proofs.run.+steps.Given as goal

abbrev pub invariant-run_steps-loop-step : goal.invariant-run_steps-loop-step
invariant-run_steps-loop-step g l = record {
  goes : Goes (run_all (world_on gregorian l.program.context) (view_steps l.steps)) (run_all (world_on gregorian l.program.context) (view_steps (drop l.step-index l.steps))) l.fn.r l.r;
  sound : AreSound l.r.live.frame.accums;
  turns : l.r.turns ≤ l.fn.r.turns;
}

abbrev pub invariant-run_step-loop-branch : goal.invariant-run_step-loop-branch
invariant-run_step-loop-branch g l = record {
  goes : Goes (run (world_on gregorian l.program.context) (view_step l.step)) (branches_from (world_on gregorian l.program.context) (drop l.branch-index l.branch-items) l.others) l.fn.r l.r;
  sound : AreSound l.r.live.frame.accums;
  turns : l.r.turns ≤ l.fn.r.turns;
}

abbrev pub invariant-run_rounds-round : goal.invariant-run_rounds-round
invariant-run_rounds-round g l = record {
  goes : Rounding (goes_round l.fn.most (condition_of (world_on gregorian l.program.context) (view l.condition)) (run_all (world_on gregorian l.program.context) (view_steps l.body))) l.left
      (condition_of (world_on gregorian l.program.context) (view l.condition)) (run_all (world_on gregorian l.program.context) (view_steps l.body)) l.fn.r l.r;
  sound : AreSound l.r.live.frame.accums;
  turns : l.r.turns ≤ l.fn.r.turns;
}

abbrev pub invariant-run_values-value : goal.invariant-run_values-value
invariant-run_values-value g l = record {
  goes : Goes (values_from (Place l.place) (run_all (world_on gregorian l.program.context) (view_steps l.body)) (base_in l.values) (values_of l.values))
      (values_from (Place l.place) (run_all (world_on gregorian l.program.context) (view_steps l.body)) (base_in l.values) (drop l.at (values_of l.values))) l.fn.r l.r;
  sound : AreSound l.r.live.frame.accums;
  turns : l.at + l.r.turns ≤ l.fn.r.turns;
}

-- ---- the number of turns left bounds the number of iterations

abbrev pub decreases-run_rounds-round : goal.decreases-run_rounds-round
decreases-run_rounds-round g l = l.r.turns

abbrev pub decreases-run_values-value : goal.decreases-run_values-value
decreases-run_values-value g l = l.r.turns

-- ---- the size of the statements left; a function that passes its argument on unchanged has a larger measure

abbrev pub decreases-run_step : goal.decreases-run_step
decreases-run_step g l = 8 * goal.size-run_step g l + 0

abbrev pub decreases-run_steps : goal.decreases-run_steps
decreases-run_steps g l = 8 * goal.size-run_steps g l + 1

abbrev pub decreases-run_body : goal.decreases-run_body
decreases-run_body g l = 8 * goal.size-run_body g l + 2

abbrev pub decreases-run_named : goal.decreases-run_named
decreases-run_named g l = 8 * goal.size-run_named g l + 2

abbrev pub decreases-run_turn : goal.decreases-run_turn
decreases-run_turn g l = 8 * goal.size-run_turn g l + 3

abbrev pub decreases-run_value : goal.decreases-run_value
decreases-run_value g l = 8 * goal.size-run_value g l + 3

abbrev pub decreases-run_rounds : goal.decreases-run_rounds
decreases-run_rounds g l = 8 * goal.size-run_rounds g l + 4

abbrev pub decreases-run_values : goal.decreases-run_values
decreases-run_values g l = 8 * goal.size-run_values g l + 4

abbrev pub decreases-run_while : goal.decreases-run_while
decreases-run_while g l = 8 * goal.size-run_while g l + 5

abbrev pub decreases-run_foreach : goal.decreases-run_foreach
decreases-run_foreach g l = 8 * goal.size-run_foreach g l + 5
