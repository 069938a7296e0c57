use Rattle.std.proofs.Common.{◌≡◌, ◌-◌, ◌≤◌}
use Rattle.gq_rules_meaning.specs.States.{State}
use Rattle.gq_plan_ir.specs.Reference.{Reference}
use Rattle.gq_frame.specs.Lives.{Lives, without}
use Rattle.gq_frame.proofs.live.Live.leave.Given as goal

-- as many names have left as there were turns
abbrev pub invariant-loop-turn : goal.invariant-loop-turn
invariant-loop-turn l = record {
  names : (s : State Reference) → Lives l.fn.self s → Lives l.self (without (l._turn - l.mark) s);
  none : l._turn-end ≤ l.mark → l._turn ≡ l.mark;
  accums : l.self.frame.accums ≡ l.fn.self.frame.accums;
}
