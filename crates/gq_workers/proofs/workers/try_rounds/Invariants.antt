use Rattle.std.proofs.Common.{◌-◌, length}
use Rattle.gq_rules_calendar.specs.Gregorian.{gregorian}
use Rattle.gq_workers.specs.Running.{HasRun}
use Rattle.gq_workers.specs.Rounds.{IsAhead}
use Rattle.gq_workers.proofs.workers.try_rounds.Given as goal

abbrev pub invariant-loop-ahead : goal.invariant-loop-ahead
invariant-loop-ahead g l = HasRun gregorian l.over l.work l.run × IsAhead gregorian l.over l.work l.ahead

abbrev pub decreases-loop-ahead : goal.decreases-loop-ahead
decreases-loop-ahead g l = length l.work.candidates - l.ahead.last
