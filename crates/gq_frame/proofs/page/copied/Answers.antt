use Rattle.gq_frame.proofs.OpenSteps.{same_more, show_the_same}
use Rattle.gq_frame.proofs.page.copied.Goals as goal

pub loop-content-preserved : goal.loop-content-preserved
loop-content-preserved c = same_more _ _ _ _ _ _ c.loop-content-test.true c.content-item.is c.in_ok-push_copy.ensures.same c.in_ok-push_copy.ensures.added c.loop-content.invariant

pub returns : goal.returns
returns c = show_the_same _ _ _ c.loop-content-test.false c.loop-content.auto.content-index-end c.loop-content.invariant
