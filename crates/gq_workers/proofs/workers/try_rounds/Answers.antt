use Rattle.gq_rules_calendar.specs.Gregorian.{gregorian}
use Rattle.gq_workers.proofs.RoundLemmas.{stands_ok}
use Rattle.gq_workers.proofs.workers.try_rounds.Goals as goal

pub returns : goal.returns
returns g c = stands_ok gregorian c.args.over.now c.args.work.now c.loop-ahead.run c.feed_round.new.run c.loop-ahead.ahead c.feed_round.result c.loop-ahead.invariant.0 c.loop-ahead.invariant.1 c.feed_round.ensures
