use Rattle.gq_exec_feed.proofs.fits.first_unfit.Goals as goal

pub returns-clause-unfit : goal.returns-clause-unfit
returns-clause-unfit c = rw c.seal.ensures at c.unfit_in.ensures
