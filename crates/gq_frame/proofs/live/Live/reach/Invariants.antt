use Rattle.std.proofs.Common.{◌≡◌, length}
use Rattle.gq_rules_meaning.specs.States.{State}
use Rattle.gq_plan_ir.specs.Reference.{Reference}
use Rattle.gq_frame.specs.Lives.{Lives}
use Rattle.gq_frame.proofs.live.Live.reach.Given as goal

-- there are as many as were gone over, and nothing else has changed
abbrev pub invariant-loop-more : goal.invariant-loop-more
invariant-loop-more l = record {
  names : (s : State Reference) → Lives l.fn.self s → Lives l.self s;
  there : length l.self.frame.things ≡ l._more;
  accums : l.self.frame.accums ≡ l.fn.self.frame.accums;
}
