use Rattle.gq_workers.proofs.RoundLemmas.{MarksTo}
use Rattle.gq_workers.proofs.joining.mark_parts.Given as goal

abbrev pub invariant-loop-part : goal.invariant-loop-part
invariant-loop-part l = MarksTo l.parts l.part-index l.fn.found l.found
