use Rattle.gq_exec_feed.proofs.FitLemmas.{unfit_first}
use Rattle.gq_exec_feed.proofs.fits.unfit_in.Goals as goal

pub loop-number-init : goal.loop-number-init
loop-number-init c = unfit_first _
