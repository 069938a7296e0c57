use Rattle.std.proofs.Common.{◌≡◌, All, IfOk, length, refl, subst, arith}
use Rattle.gq_rules_calendar.specs.Gregorian.{gregorian}
use Rattle.gq_eval_context.specs.Viewed.{Over}
use Rattle.gq_workers.specs.Rounds.{IsPart}
use Rattle.gq_workers.proofs.RoundLemmas.{round_on, round_stops}
use Rattle.gq_workers.proofs.workers.next_round.Goals as goal

pub returns-in-Some : goal.returns-in-Some
returns-in-Some g c = round_stops gregorian c.args.over.now c.args.work.now c.args.run.now c.one_turn.new.run c.args.ahead.now c.in-Some.fault c.requires.run c.requires.ahead (rw c.in-Some.is at c.in_ok-turn.ensures.1)

pub returns : goal.returns
returns g c =
    let s = c.saturating_add.ensures in let n : c.count.result ≡ length c.args.work.now.candidates = c.count.ensures in let m = c.min-last.ensures in let t = c.max-round.ensures in let some = c.requires.work.some in let more = c.requires.more in
    round_on gregorian c.args.over.now c.args.work.now c.args.run.now c.one_turn.new.run c.args.ahead.now (record { first = c.args.ahead.now.last; last = c.min-last.result; parts = c.in_ok-turn.turn.parts }) c.requires.run c.requires.ahead (rw c.in-None.is at c.in_ok-turn.ensures.1) (omega (arith, s, n, m, t, some, more))
    (subst (λ (o : Over). All (λ part. IfOk part (IsPart gregorian o c.args.work.now c.args.ahead.now.last c.min-last.result)) c.in_ok-turn.turn.parts.items) c.over.view_is c.in_ok-turn.ensures.0)
