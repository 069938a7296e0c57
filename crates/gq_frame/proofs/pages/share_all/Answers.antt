use Rattle.gq_frame.proofs.PageLemmas.{share_done, share_more}
use Rattle.gq_frame.proofs.pages.share_all.Goals as goal

pub loop-page-preserved : goal.loop-page-preserved
loop-page-preserved c = share_more _ _ _ _ _ _ c.loop-page-test.true c.page-item.is c.in_ok-share.ensures c.in_ok-push.ensures.ok c.loop-page.invariant

pub returns : goal.returns
returns c = share_done _ _ _ c.loop-page-test.false c.loop-page.auto.page-index-end c.loop-page.invariant
