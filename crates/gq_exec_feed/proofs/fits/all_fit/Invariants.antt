use Rattle.gq_exec_feed.proofs.FitLemmas.{FitRange}
use Rattle.gq_exec_feed.proofs.fits.all_fit.Given as goal

abbrev pub invariant-loop-at : goal.invariant-loop-at
invariant-loop-at l = FitRange l.contents l.start l.end l.at
