use Rattle.std.proofs.Common.{ℕ, ◌<◌, sym, ◌∙◌, subst}
use Rattle.gq_exec_feed.proofs.targets.found.Goals as goal

pub returns-then-suits : goal.returns-then-suits
returns-then-suits c = (
  c.target.ensures,
  record {
    slot = c.in-Some.declared.now;
    declared = c.in-Some.ensures;
    within = subst (λ (n : ℕ). c.args.vertex < n) c.targets.ensures c.if-vertex-targets.true;
    suited = sym c.suits.ensures ∙ c.if-suits.true;
  },
)
