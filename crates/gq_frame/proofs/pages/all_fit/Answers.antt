use Rattle.gq_frame.specs.Pages.{AllFit, items_of}
use Rattle.gq_frame.proofs.TargetLemmas.{get_some}
use Rattle.gq_frame.proofs.PageLemmas.{every_done, every_more, fit_all, kept_at}
use Rattle.gq_frame.proofs.pages.all_fit.Goals as goal

pub loop-page-preserved : goal.loop-page-preserved
loop-page-preserved c = λ a. every_more (λ p. AllFit (items_of p)) _ _ _ c.loop-page-test.true c.page-item.is
    (c.fits.ensures (kept_at _ _ _ a (get_some _ _ _ c.loop-page-test.true c.page-item.is)) c.if-not-fits.false) (c.loop-page.invariant a)

pub returns : goal.returns
returns c = λ a e. fit_all _ (every_done (λ p. AllFit (items_of p)) _ _ c.loop-page-test.false c.loop-page.auto.page-index-end (c.loop-page.invariant a))
