use Rattle.std.proofs.Common.{◌≡◌}
use Rattle.gq_exec_feed.proofs.SuitLemmas.{AreRest, AreWhole}
use Rattle.gq_exec_feed.proofs.values.+values.Given as goal

abbrev pub invariant-are_of-loop-place : goal.invariant-are_of-loop-place
invariant-are_of-loop-place l = AreRest l.types l.values l.place ≡ AreWhole l.types l.values
