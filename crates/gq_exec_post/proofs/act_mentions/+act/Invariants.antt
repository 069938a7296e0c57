use Rattle.std.proofs.Common.{◌+◌, ◌*◌}
use Rattle.gq_exec_post.proofs.NamingLemmas.{ActsTo, BranchesTo}
use Rattle.gq_exec_post.proofs.act_mentions.+act.Given as goal

abbrev pub invariant-acts_name-loop-act : goal.invariant-acts_name-loop-act
invariant-acts_name-loop-act l = ActsTo l.place l.acts l.act-index

abbrev pub invariant-act_names-loop-branch : goal.invariant-act_names-loop-branch
invariant-act_names-loop-branch l = BranchesTo l.place l.others l.branch-items l.branch-index

abbrev pub decreases-acts_name : goal.decreases-acts_name
decreases-acts_name l = 8 * goal.size-acts_name l + 1

abbrev pub decreases-act_names : goal.decreases-act_names
decreases-act_names l = 8 * goal.size-act_names l
