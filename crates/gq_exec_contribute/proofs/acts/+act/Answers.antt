use Rattle.std.proofs.Common.{rules}
use Rattle.gq_frame.specs.Slots.{slots_are}
use Rattle.gq_exec_contribute.specs.Gathered.{shown, gathered_in}
use Rattle.gq_exec_contribute.proofs.ActLemmas.{if_stops, if_holds, if_last, if_none}
use Rattle.gq_exec_contribute.proofs.acts.+act.Goals as goal

pub run_act-returns-in_err-run_truth-in-If : goal.run_act-returns-in_err-run_truth-in-If
run_act-returns-in_err-run_truth-in-If g t c =
    if_stops (g.V.Sees.look c.args.sight.now) (slots_are c.args.accums.now) c.args.act.now c.in-If.branches c.as_slice-branch-items.result.now c.in-If.others c.in-If.is c.as_slice-branch-items.ensures c.loop-branch.branch-index (shown c.args.before.items)
    c.branch-item.result c.in_err-run_truth-in-If.field-0.0 gathered_in c.from_residual-in_err-run_truth-in-If.result c.loop-branch.invariant (search rules) (search rules) (search rules) (search rules)

pub run_act-returns-then-branch : goal.run_act-returns-then-branch
run_act-returns-then-branch g t c =
    if_holds (g.V.Sees.look c.args.sight.now) (slots_are c.args.accums.now) c.args.act.now c.in-If.branches c.as_slice-branch-items.result.now c.in-If.others c.in-If.is c.as_slice-branch-items.ensures c.loop-branch.branch-index (shown c.args.before.items)
    c.branch-item.result c.in_ok-run_truth-in-If.field-0 c.as_slice.result.now gathered_in c.run_acts.result c.loop-branch.invariant (search rules) (search rules) (search rules) (search rules) (search rules) (search rules)

pub run_act-returns-in-Some : goal.run_act-returns-in-Some
run_act-returns-in-Some g t c =
    if_last (g.V.Sees.look c.args.sight.now) (slots_are c.args.accums.now) c.args.act.now c.in-If.branches c.as_slice-branch-items.result.now c.in-If.others c.in-If.is c.as_slice-branch-items.ensures c.loop-branch.branch-index (shown c.args.before.items)
    c.in-Some.others c.as_slice-in-Some.result.now gathered_in c.run_acts-in-Some.result c.loop-branch.invariant (search rules) (search rules) (search rules) (search rules)

pub run_act-returns-in-None : goal.run_act-returns-in-None
run_act-returns-in-None g t c =
    if_none (g.V.Sees.look c.args.sight.now) (slots_are c.args.accums.now) c.args.act.now c.in-If.branches c.as_slice-branch-items.result.now c.in-If.others c.in-If.is c.as_slice-branch-items.ensures c.loop-branch.branch-index (shown c.args.before.items)
    c.loop-branch.invariant (search rules) (search rules)
