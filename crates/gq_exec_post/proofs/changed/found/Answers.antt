use Rattle.std.proofs.Common.{ℕ, ◌<◌, subst}
use Rattle.gq_exec_post.proofs.changed.found.Goals as goal

pub returns-then-may_suit : goal.returns-then-may_suit
returns-then-may_suit c = (
  c.target.ensures,
  record {
    slot = c.in-Some.declared.now;
    declared = c.in-Some.ensures;
    within = subst (λ (n : ℕ). c.args.vertex < n) c.targets.ensures c.if-vertex-targets.true;
    suited = c.may_suit.ensures c.if-may_suit.true;
  },
)
