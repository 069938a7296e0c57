use Rattle.std.proofs.Common.{arith}
use Rattle.gq_stripe.proofs.OpenLemmas.{next_first, stripe_small, run_begins, kind_more, run_ends, all_runs}
use Rattle.gq_stripe.proofs.opening.first_rows.Goals as goal

pub loop-run-init : goal.loop-run-init
loop-run-init c = next_first _ _ c.requires c.in_ok-rows.ensures

pub loop-init : goal.loop-init
loop-init c = run_begins c.runs-run-items.result.now c.loop-run.run-index _ _ _ c.loop-run.invariant

pub push_at-requires : goal.push_at-requires
push_at-requires c = (stripe_small _ _ _ _ c.requires c.loop.invariant).1

pub overflow_add-stripe : goal.overflow_add-stripe
overflow_add-stripe c = let h = (stripe_small _ _ _ _ c.requires c.loop.invariant).0 in let n = c.ranges.stripes in omega (arith, h, n)

pub loop-preserved : goal.loop-preserved
loop-preserved c = kind_more _ _ _ _ _ c.run-item.result _ _ _ c.requires c.loop-run-test.true c.run-item.is c.in_ok-content.ensures c.in_ok-push_at.ensures c.loop.invariant

pub loop-run-preserved : goal.loop-run-preserved
loop-run-preserved c = run_ends _ _ c.loop.counter _ _ c.run-item.result _ c.loop-run-test.true c.run-item.is (let a = c.loop-test.false in let b = c.loop.auto.counter-end in omega (arith, a, b)) c.loop.invariant

pub returns : goal.returns
returns c = all_runs _ _ _ _ _ _ c.loop-run-test.false c.loop-run.auto.run-index-end c.runs-run-items.ensures c.loop-run.invariant
