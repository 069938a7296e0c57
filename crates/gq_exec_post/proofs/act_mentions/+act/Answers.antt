use Rattle.std.proofs.Common.{rules}
use Rattle.gq_exec_post.proofs.NamingLemmas.{choice_by_acts, choice_by_condition, choice_last, choice_none}
use Rattle.gq_exec_post.proofs.act_mentions.+act.Goals as goal
use Rattle.gq_exec_post.proofs.act_mentions.+act.Goals.{act_names-then-expr_names-via-then-expr_names, act_names-then-expr_names-via-else-expr_names+then-acts_name}

pub act_names-returns-then-expr_names : goal.act_names-returns-then-expr_names
act_names-returns-then-expr_names t c =
    elim c.then-expr_names.branch [
      | act_names-then-expr_names-via-then-expr_names w ↦
          choice_by_condition c.args.place c.args.act.now c.in-If.branches c.as_slice-branch-items.result.now c.in-If.others c.in-If.is c.as_slice-branch-items.ensures c.loop-branch.branch-index c.loop-branch.invariant
          c.branch-item.result c.expr_names.result (search rules) (search rules) (search rules) (search rules)
      | act_names-then-expr_names-via-else-expr_names+then-acts_name w ↦
          choice_by_acts c.args.place c.args.act.now c.in-If.branches c.as_slice-branch-items.result.now c.in-If.others c.in-If.is c.as_slice-branch-items.ensures c.loop-branch.branch-index c.loop-branch.invariant
          c.branch-item.result w.as_slice.result.now w.acts_name.result (search rules) (search rules) (search rules) (search rules) (search rules)
    ]

pub act_names-returns-in-Some : goal.act_names-returns-in-Some
act_names-returns-in-Some t c =
    choice_last c.args.place c.args.act.now c.in-If.branches c.as_slice-branch-items.result.now c.in-If.others c.in-If.is c.as_slice-branch-items.ensures c.loop-branch.branch-index c.loop-branch.invariant
    c.in-Some.others c.as_slice-in-Some.result.now c.acts_name-in-Some.result (search rules) (search rules) (search rules) (search rules)

pub act_names-returns-in-None : goal.act_names-returns-in-None
act_names-returns-in-None t c =
    choice_none c.args.place c.args.act.now c.in-If.branches c.as_slice-branch-items.result.now c.in-If.others c.in-If.is c.as_slice-branch-items.ensures c.loop-branch.branch-index c.loop-branch.invariant (search rules) (search rules)
