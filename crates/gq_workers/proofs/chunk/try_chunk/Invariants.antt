use Rattle.gq_rules_calendar.specs.Gregorian.{gregorian}
use Rattle.gq_workers.specs.Running.{come}
use Rattle.gq_workers.proofs.RunLemmas.{ChunkTo}
use Rattle.gq_workers.proofs.chunk.try_chunk.Given as goal

abbrev pub invariant-loop-place : goal.invariant-loop-place
invariant-loop-place l = ChunkTo (come gregorian l.over l.work) l.work.candidates l.over l.start l.end l.place l.fn.found l.found
