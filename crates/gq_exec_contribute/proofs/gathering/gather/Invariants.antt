use Rattle.gq_rules_calendar.specs.Gregorian.{gregorian}
use Rattle.gq_exec_contribute.proofs.GatherLemmas.{GatheredTo}
use Rattle.gq_exec_contribute.proofs.gathering.gather.Given as goal

-- the inputs of the statements so far
abbrev pub invariant-loop-act : goal.invariant-loop-act
invariant-loop-act l = GatheredTo gregorian l.over l.leaves l.c l.acts l.act-index l.fn.into l.into
