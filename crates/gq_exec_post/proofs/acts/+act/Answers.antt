use Rattle.std.proofs.Common.{Ok, Err, map, subst}
use Rattle.std.specs.Prelude.{OnOk}
use Rattle.gq_rules_calendar.specs.Gregorian.{gregorian}
use Rattle.gq_frame.specs.Names.{alias_of}
use Rattle.gq_rules_meaning.specs.Posts.{post_act}
use Rattle.gq_plan_ir.specs.BlockView.{view_act}
use Rattle.gq_exec_post.specs.declared.writing.Writing.{Writing}
use Rattle.gq_exec_post.specs.Sights.{DoesSo}
use Rattle.gq_exec_post.specs.Writing.{KeepsTo, left}
use Rattle.gq_exec_post.proofs.ActLemmas.{act_next, act_stops, attached_is, choice_next, global_is, if_holds, if_last, if_none, if_stops, none_chosen}
use Rattle.gq_exec_post.proofs.acts.+act.Goals as goal

-- ---- statements in order

pub run_acts-returns-in-Err-clause-told : goal.run_acts-returns-in-Err-clause-told
run_acts-returns-in-Err-clause-told t c =
    act_stops gregorian c.args.over.now (map alias_of c.args.aliases.now) c.args.vertex c.args.acts.now c.loop-act.act-index c.act-item.result c.args.writing.now c.loop-act.writing c.in-Err.fault c.loop-act.invariant c.loop-act-test.true c.act-item.is c.in-Err.ensures.told

pub run_acts-loop-act-preserved : goal.run_acts-loop-act-preserved
run_acts-loop-act-preserved t c =
    act_next gregorian c.args.over.now (map alias_of c.args.aliases.now) c.args.vertex c.args.acts.now c.loop-act.act-index c.act-item.result c.args.writing.now c.loop-act.writing c.run_act.new.writing c.loop-act.invariant c.loop-act-test.true c.act-item.is c.in-Ok.ensures.told c.in-Ok.ensures.sound c.in-Ok.ensures.taken

-- ---- a change

pub run_act-returns-in-Attached-clause-told : goal.run_act-returns-in-Attached-clause-told
run_act-returns-in-Attached-clause-told t c =
    attached_is gregorian c.args.over.now (map alias_of c.args.aliases.now) c.args.vertex c.args.act.now c.in-Attached.field-0 c.in-Attached.slot c.in-Attached.change c.args.writing.now (left c.write.result c.write.new.writing) c.in-Attached.is c.write.ensures.told

pub run_act-returns-in-Global-clause-told : goal.run_act-returns-in-Global-clause-told
run_act-returns-in-Global-clause-told t c =
    global_is gregorian c.args.over.now (map alias_of c.args.aliases.now) c.args.vertex c.args.act.now c.in-Global.slot c.in-Global.change c.args.writing.now (left c.wait.result c.wait.new.writing) c.in-Global.is c.wait.ensures.told

-- ---- IF

pub run_act-returns-in-Err-clause-told : goal.run_act-returns-in-Err-clause-told
run_act-returns-in-Err-clause-told t c =
    subst (λ (w : Writing). DoesSo gregorian c.args.over.now (map alias_of c.args.aliases.now) c.args.vertex (λ p. post_act p (view_act c.args.act.now)) w (Err c.fault_at.result)) c.loop-branch.invariant.same
    (if_stops gregorian c.args.over.now (map alias_of c.args.aliases.now) c.args.vertex c.args.act.now c.in-If.branches c.as_slice-branch-items.result.now c.in-If.others c.in-If.is c.as_slice-branch-items.ensures c.loop-branch.writing c.loop-branch.branch-index c.loop-branch.invariant.chosen
    c.branch-item.result c.in-Err.halt c.loop-branch-test.true c.branch-item.is c.in-Err.ensures c.fault_at.result c.fault_at.ensures)

pub run_act-returns-in-Ok-true-clause-told : goal.run_act-returns-in-Ok-true-clause-told
run_act-returns-in-Ok-true-clause-told t c =
    subst (λ (w : Writing). DoesSo gregorian c.args.over.now (map alias_of c.args.aliases.now) c.args.vertex (λ p. post_act p (view_act c.args.act.now)) w (left c.run_acts.result c.run_acts.new.writing)) c.loop-branch.invariant.same
    (if_holds gregorian c.args.over.now (map alias_of c.args.aliases.now) c.args.vertex c.args.act.now c.in-If.branches c.as_slice-branch-items.result.now c.in-If.others c.in-If.is c.as_slice-branch-items.ensures c.loop-branch.writing c.loop-branch.branch-index c.loop-branch.invariant.chosen
    c.branch-item.result c.as_slice-acts.result.now (left c.run_acts.result c.run_acts.new.writing) c.in-Ok-true.field-0 c.loop-branch-test.true c.branch-item.is c.in-Ok-true.ensures c.in-Ok-true.field-0-test c.as_slice-acts.ensures c.run_acts.ensures.told)

pub run_act-returns-in-Ok-true-clause-sound : goal.run_act-returns-in-Ok-true-clause-sound
run_act-returns-in-Ok-true-clause-sound t c =
    subst (λ (w : Writing). OnOk c.run_acts.result (KeepsTo w.accums c.run_acts.new.writing.accums)) c.loop-branch.invariant.same c.run_acts.ensures.sound

pub run_act-loop-branch-preserved : goal.run_act-loop-branch-preserved
run_act-loop-branch-preserved t c = record {
  same = c.loop-branch.invariant.same;
  sound = c.loop-branch.invariant.sound;
  taken = c.loop-branch.invariant.taken;
  reads = c.loop-branch.invariant.reads;
  chosen = choice_next gregorian c.args.over.now (map alias_of c.args.aliases.now) c.args.vertex c.as_slice-branch-items.result.now c.in-If.others c.loop-branch.writing c.loop-branch.branch-index c.branch-item.result c.in-Ok-false.field-0
      c.loop-branch.invariant.chosen c.loop-branch-test.true c.branch-item.is c.in-Ok-false.ensures c.in-Ok-false.field-0-test;
}

pub run_act-returns-in-Some-clause-told : goal.run_act-returns-in-Some-clause-told
run_act-returns-in-Some-clause-told t c =
    subst (λ (w : Writing). DoesSo gregorian c.args.over.now (map alias_of c.args.aliases.now) c.args.vertex (λ p. post_act p (view_act c.args.act.now)) w (left c.run_acts-in-Some.result c.run_acts-in-Some.new.writing)) c.loop-branch.invariant.same
    (if_last gregorian c.args.over.now (map alias_of c.args.aliases.now) c.args.vertex c.args.act.now c.in-If.branches c.as_slice-branch-items.result.now c.in-If.others c.in-If.is c.as_slice-branch-items.ensures c.loop-branch.writing c.loop-branch.branch-index c.loop-branch.invariant.chosen
    c.in-Some.others c.as_slice-acts-in-Some.result.now (left c.run_acts-in-Some.result c.run_acts-in-Some.new.writing) c.loop-branch-test.false c.in-Some.is c.as_slice-acts-in-Some.ensures c.run_acts-in-Some.ensures.told)

pub run_act-returns-in-Some-clause-sound : goal.run_act-returns-in-Some-clause-sound
run_act-returns-in-Some-clause-sound t c =
    subst (λ (w : Writing). OnOk c.run_acts-in-Some.result (KeepsTo w.accums c.run_acts-in-Some.new.writing.accums)) c.loop-branch.invariant.same c.run_acts-in-Some.ensures.sound

pub run_act-returns-in-None-clause-told : goal.run_act-returns-in-None-clause-told
run_act-returns-in-None-clause-told t c =
    subst (λ (w : Writing). DoesSo gregorian c.args.over.now (map alias_of c.args.aliases.now) c.args.vertex (λ p. post_act p (view_act c.args.act.now)) w (Ok c.loop-branch.writing)) c.loop-branch.invariant.same
    (if_none gregorian c.args.over.now (map alias_of c.args.aliases.now) c.args.vertex c.args.act.now c.in-If.branches c.as_slice-branch-items.result.now c.in-If.others c.in-If.is c.as_slice-branch-items.ensures c.loop-branch.writing c.loop-branch.branch-index c.loop-branch.invariant.chosen
    c.loop-branch-test.false c.in-None.is)

pub run_act-returns-in-None-clause-sound : goal.run_act-returns-in-None-clause-sound
run_act-returns-in-None-clause-sound t c =
    subst (λ (w : Writing). KeepsTo w.accums c.loop-branch.writing.accums) c.loop-branch.invariant.same (none_chosen c.loop-branch.writing c.loop-branch.invariant.sound)
