use Rattle.std.proofs.Common.{◌≡◌, ◌+◌, ◌-◌, length, subst, ◌∙◌, arith}
use Rattle.gq_frame.specs.Lives.{Lives, without}
use Rattle.gq_frame.proofs.LookupLemmas.{more_leave, turns_taken}
use Rattle.gq_frame.proofs.live.Live.leave.Goals as goal

pub loop-turn-preserved : goal.loop-turn-preserved
loop-turn-preserved c = record {
  names = λ s l.
      more_leave c.leave_last.new.self s (c.loop-turn._turn - c.args.mark) (c.loop-turn._turn + 1 - c.args.mark) (omega arith)
      (c.leave_last.ensures.names (without (c.loop-turn._turn - c.args.mark) s) (c.loop-turn.invariant.names s l));
  accums = c.leave_last.ensures.accums ∙ c.loop-turn.invariant.accums;
  none = λ few. absurd (omega (arith, few));
}

pub returns-clause-names : goal.returns-clause-names
returns-clause-names c = λ s l.
    let e : c.mark-turn-end.result ≡ length s.names = c.mark-turn-end.ensures s l in
    let k : c.loop-turn._turn - c.args.mark ≡ length s.names - c.args.mark = turns_taken c.loop-turn._turn c.args.mark c.mark-turn-end.result (length s.names) e c.loop-turn.auto._turn-end c.loop-turn-test.false c.loop-turn.invariant.none in
    subst (λ k. Lives c.loop-turn.self (without k s)) k (c.loop-turn.invariant.names s l)
