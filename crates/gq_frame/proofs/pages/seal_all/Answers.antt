use Rattle.std.proofs.Common.{arith}
use Rattle.gq_frame.proofs.PageLemmas.{seal_length, seal_more, seal_none}
use Rattle.gq_frame.proofs.pages.seal_all.Goals as goal

pub loop-at-init : goal.loop-at-init
loop-at-init c = seal_none c.args.pages.now

pub at_mut-requires : goal.at_mut-requires
at_mut-requires c = (let l = c.loop-at-test.true in let e = c.len-at-end.ensures in let n = seal_length _ _ c.loop-at.invariant in omega (arith, l, e, n))

pub loop-at-preserved : goal.loop-at-preserved
loop-at-preserved c = seal_more _ _ _ _ _ c.loop-at.invariant c.at_mut.ensures.value (record { same = c.seal.ensures.same; kept = c.seal.ensures.kept })
