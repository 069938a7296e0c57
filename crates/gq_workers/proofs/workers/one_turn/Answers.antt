use Rattle.std.proofs.Common.{All, IfOk}
use Rattle.gq_rules_calendar.specs.Gregorian.{gregorian}
use Rattle.gq_workers.specs.Rounds.{FeedsRound, IsRoundPart}
use Rattle.gq_workers.proofs.RoundLemmas.{both_ok}
use Rattle.gq_workers.proofs.workers.one_turn.Goals as goal

pub returns : goal.returns
returns g c = both_ok (λ parts. All (λ part. IfOk part (IsRoundPart gregorian c.args.round.now)) parts.items) (FeedsRound c.args.ahead.now c.args.run.now c.gather_and_feed.new.run) c.gather_and_feed.result.0 c.gather_and_feed.result.1 (λ turn. turn.parts) (λ turn. turn.fault) c.joined.result c.gather_and_feed.ensures.parts c.gather_and_feed.ensures.fed c.joined.ensures
