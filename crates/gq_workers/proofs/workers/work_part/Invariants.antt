use Rattle.gq_rules_calendar.specs.Gregorian.{gregorian}
use Rattle.gq_workers.proofs.RoundLemmas.{PartTo}
use Rattle.gq_workers.proofs.workers.work_part.Given as goal

abbrev pub invariant-loop : goal.invariant-loop
invariant-loop g l = PartTo gregorian l.over l.work l.first l.last l.lefts l.found
