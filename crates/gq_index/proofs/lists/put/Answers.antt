use Rattle.std.proofs.Common.{sym, subst}
use Rattle.std.proofs.lemmas.Result.{IfOk-weaker}
use Rattle.gq_index.specs.Walks.{AreListed}
use Rattle.gq_index.proofs.lists.put.Goals as goal

pub returns-then-fits : goal.returns-then-fits
returns-then-fits c = c.fits.ensures.put c.if-fits.true

pub returns : goal.returns
returns c =
    IfOk-weaker c.put_anyway.result _ _ (λ ok h n count walks low are.
    h n count walks low (subst (λ l. AreListed n count l walks) (sym (c.fits.ensures.same c.if-fits.false)) are)) c.put_anyway.ensures
