use Rattle.std.proofs.Common.{◌-◌, length}
use Rattle.gq_rules_calendar.specs.Gregorian.{gregorian}
use Rattle.gq_workers.specs.Running.{HasRun}
use Rattle.gq_workers.proofs.block.in_chunks.Given as goal

abbrev pub invariant-loop-run : goal.invariant-loop-run
invariant-loop-run g l = HasRun gregorian l.over l.work l.run

abbrev pub decreases-loop-run : goal.decreases-loop-run
decreases-loop-run g l = length l.work.candidates - l.run.at
