use Rattle.std.proofs.Common.{◌∙◌}
use Rattle.gq_frame.proofs.SingleLemmas.{copy_done, copy_more, copy_none}
use Rattle.gq_frame.proofs.page.share_each.Goals as goal

pub loop-single-init : goal.loop-single-init
loop-single-init c = copy_none c.args.singles.now _ (c.from_vec-copy.ensures ∙ c.in_ok-with_capacity.ensures.items)

pub loop-single-preserved : goal.loop-single-preserved
loop-single-preserved c = copy_more _ _ _ _ _ _ c.loop-single-test.true c.single-item.is c.in_ok-share.ensures c.in_ok-push.ensures.ok c.loop-single.invariant

pub returns : goal.returns
returns c = copy_done _ _ _ c.loop-single-test.false c.loop-single.auto.single-index-end c.loop-single.invariant
