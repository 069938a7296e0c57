use Rattle.gq_words.specs.Seats.{IsSeatOf}
use Rattle.gq_parallel_tests.proofs.words.feed_all.Given as goal

abbrev pub invariant-loop-i : goal.invariant-loop-i
invariant-loop-i l = IsSeatOf l.words l.seat
