use Rattle.gq_index.proofs.lists.fits.Goals as goal

pub returns-in-Together-clause-put : goal.returns-in-Together-clause-put
returns-in-Together-clause-put c = rw c.in-Together.is c.put.ensures.put
