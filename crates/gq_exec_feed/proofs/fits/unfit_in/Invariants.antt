use Rattle.gq_exec_feed.proofs.FitLemmas.{UnfitFrom}
use Rattle.gq_exec_feed.proofs.fits.unfit_in.Given as goal

abbrev pub invariant-loop-number : goal.invariant-loop-number
invariant-loop-number l = UnfitFrom l.accums l.number l.start
