use Rattle.std.proofs.Common.{arith, sym, ◌∙◌, le_refl}
use Rattle.gq_stripe.proofs.OpenLemmas.{none_taken, one_taken, open_none, open_whole, stripe_more}
use Rattle.gq_stripe.proofs.opening.first_stripes.Goals as goal

pub loop-stripe-init : goal.loop-stripe-init
loop-stripe-init c = (_, c.in_ok-rows.ensures, none_taken _, open_none _ _ _ c.in_ok-slots.ensures.items)

pub take_row-requires : goal.take_row-requires
take_row-requires c = let i = c.loop-stripe.invariant in let a = i.1.count in let b = i.2.count in let t = c.loop-stripe-test.true in omega (arith, a, b, t)

pub loop-stripe-preserved : goal.loop-stripe-preserved
loop-stripe-preserved c = let i = c.loop-stripe.invariant in (
  i.0,
  i.1,
  one_taken _ _ _ _ i.2 c.take_row.ensures.left,
  stripe_more _ _ _ i.0 c.take_row.result _ _ i.1 (sym (i.2.each c.loop-stripe.stripe (le_refl c.loop-stripe.stripe)) ∙ c.take_row.ensures.row) c.in_ok-push.ensures.items i.3,
)

pub returns : goal.returns
returns c = open_whole _ _ _ _ c.loop-stripe-test.false c.loop-stripe.auto.stripe-end c.loop-stripe.invariant.3
