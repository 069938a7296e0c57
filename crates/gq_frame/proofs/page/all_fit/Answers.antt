use Rattle.std.proofs.Common.{true}
use Rattle.gq_accum_laws.specs.Fits.{fits}
use Rattle.gq_nest.specs.Tells.{Tells}
use Rattle.gq_frame.proofs.PageLemmas.{every_done, every_more}
use Rattle.gq_frame.proofs.page.all_fit.Goals as goal

pub loop-content-preserved : goal.loop-content-preserved
loop-content-preserved c = every_more (λ x. Tells x true fits) _ _ _ c.loop-content-test.true c.content-item.is (rw c.if-not-fits.false at c.fits.ensures) c.loop-content.invariant

pub returns : goal.returns
returns c = λ e. every_done (λ x. Tells x true fits) _ _ c.loop-content-test.false c.loop-content.auto.content-index-end c.loop-content.invariant
