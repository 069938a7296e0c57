use Rattle.std.proofs.Common.{length}
use Rattle.gq_query_run.proofs.modes.+are_good.Given as goal

-- proposed from the argument of the recursive call
abbrev pub decreases-are_good : goal.decreases-are_good
decreases-are_good l = length l.modes.now
