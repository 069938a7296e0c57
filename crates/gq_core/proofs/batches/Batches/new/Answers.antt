use Rattle.std.proofs.Common.{arith}
use Rattle.gq_core.proofs.BatchLemmas.{empty_more, empty_count}
use Rattle.gq_core.proofs.batches.Batches.new.Goals as goal

pub loop-stripe-preserved : goal.loop-stripe-preserved
loop-stripe-preserved c = rw c.in_ok-push.ensures.items (empty_more (λ list. list.items) c.loop-stripe.lists.items c.loop-stripe._stripe c.new.result c.loop-stripe.invariant c.new.ensures.items)

pub invariant_of-result : goal.invariant_of-result
invariant_of-result c = let many = empty_count (λ list. list.items) c.loop-stripe.lists.items c.loop-stripe._stripe c.loop-stripe.invariant in omega arith
