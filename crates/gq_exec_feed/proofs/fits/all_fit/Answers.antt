use Rattle.gq_exec_feed.proofs.FitLemmas.{range_all}
use Rattle.gq_exec_feed.proofs.fits.all_fit.Goals as goal

pub returns : goal.returns
returns c = range_all _ _ _ _ c.loop-at-test.false c.loop-at.invariant
