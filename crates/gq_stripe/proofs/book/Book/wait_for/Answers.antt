use Rattle.std.proofs.Common.{rules, arith, refl, ap, ◌∙◌, sym, subst, ◌<◌}
use Rattle.gq_stripe.specs.declared.view.View.{View}
use Rattle.gq_stripe.proofs.TurnLemmas.{look_one}
use Rattle.gq_stripe.proofs.PutLemmas.{looked_on, got_turn, away_now}
use Rattle.gq_stripe.proofs.book.Book.wait_for.Goals as goal

pub overflow_mul-j : goal.overflow_mul-j
overflow_mul-j g c = let h = c.requires.at.inside in omega arith

pub load-served-requires : goal.load-served-requires
load-served-requires g c =
    let h = c.requires.at.inside in let m = c.loop.invariant.2 in let v = ap (λ m. m.0) m in
    (search rules, omega arith, look_one _ _ _ _ _ _ (ap (λ (v : View). v.phase) v ∙ c.requires.waits.0) refl (subst (λ (v : View). 0 < v.stands) (sym v) c.requires.at.live))

pub loop-preserved : goal.loop-preserved
loop-preserved g c = (search rules, search rules, looked_on _ _ _ _ _ c.loop.invariant.2 c.requires.waits.0 c.load-served.ensures.2 c.if-served-ticket.false)

pub returns-then-served-ticket-clause-view : goal.returns-then-served-ticket-clause-view
returns-then-served-ticket-clause-view g c = let x = got_turn _ _ _ _ _ c.loop.invariant.2 c.requires.waits.0 c.requires.waits.1 c.load-served.ensures.2 c.if-served-ticket.true in (x.0, ap (λ m. m.0) x.2)

pub returns-then-served-ticket-clause-away : goal.returns-then-served-ticket-clause-away
returns-then-served-ticket-clause-away g c = let x = got_turn _ _ _ _ _ c.loop.invariant.2 c.requires.waits.0 c.requires.waits.1 c.load-served.ensures.2 c.if-served-ticket.true in away_now _ _ c.args.place.now.me.0 x.0 x.1 x.2 x.3
