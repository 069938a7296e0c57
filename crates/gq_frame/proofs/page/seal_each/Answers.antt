use Rattle.std.proofs.Common.{arith}
use Rattle.gq_frame.proofs.SingleLemmas.{sealed_length, sealed_more, sealed_none}
use Rattle.gq_frame.proofs.page.seal_each.Goals as goal

pub loop-at-init : goal.loop-at-init
loop-at-init c = sealed_none c.args.singles.now

pub at_mut-requires : goal.at_mut-requires
at_mut-requires c = (let l = c.loop-at-test.true in let e = c.len-at-end.ensures in let n = sealed_length _ _ c.loop-at.invariant in omega (arith, l, e, n))

pub loop-at-preserved : goal.loop-at-preserved
loop-at-preserved c = sealed_more _ _ _ _ _ c.loop-at.invariant c.at_mut.ensures.value c.seal.ensures.same c.seal.ensures.held
