use Rattle.std.proofs.Common.{true}
use Rattle.gq_accum_laws.specs.Fits.{fits}
use Rattle.gq_nest.specs.Tells.{Tells}
use Rattle.gq_frame.specs.Pages.{content_of}
use Rattle.gq_frame.proofs.SingleLemmas.{each_fit, held_one}
use Rattle.gq_frame.proofs.PageLemmas.{every_done, every_more}
use Rattle.gq_frame.proofs.page.each_fits.Goals as goal

pub loop-single-preserved : goal.loop-single-preserved
loop-single-preserved c = λ a. every_more (λ s. Tells (content_of s) true fits) _ _ _ c.loop-single-test.true c.single-item.is
    (c.fits.ensures (held_one _ _ _ c.loop-single-test.true c.single-item.is a) c.if-not-fits.false) (c.loop-single.invariant a)

pub returns : goal.returns
returns c = λ a e. each_fit _ (every_done (λ s. Tells (content_of s) true fits) _ _ c.loop-single-test.false c.loop-single.auto.single-index-end (c.loop-single.invariant a))
