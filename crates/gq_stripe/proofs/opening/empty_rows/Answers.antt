use Rattle.gq_stripe.proofs.OpenLemmas.{row_more}
use Rattle.gq_stripe.proofs.opening.empty_rows.Goals as goal

pub loop-stripe-preserved : goal.loop-stripe-preserved
loop-stripe-preserved c = row_more _ _ _ _ c.loop-stripe.invariant c.new.ensures c.in_ok-push.ensures.items
