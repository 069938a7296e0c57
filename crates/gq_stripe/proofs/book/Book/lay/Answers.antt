use Rattle.std.proofs.Common.{rules, ap, ◌∙◌, None, Some}
use Rattle.gq_stripe.specs.declared.view.Plan.{Plan}
use Rattle.gq_stripe.proofs.PutLemmas.{may_exchange, exchanged, taken_stripe, can_lay, has_laid}
use Rattle.gq_stripe.proofs.book.Book.lay.Goals as goal

pub exchange-requires : goal.exchange-requires
exchange-requires c = (search rules, may_exchange _ _ _ c.requires.away.away)

pub lay-requires-clause-fits : goal.lay-requires-clause-fits
lay-requires-clause-fits c =
    let h = c.requires.away in
    can_lay _ _ _ _ h.stripe _ _ h.taken c.requires.fits (ap (λ (o : Plan). o.stripes) c.requires.at.plan ∙ c.args.self.now.stripes_is) (taken_stripe _ _ h.stripe _ _ h.away c.exchange.ensures.2 c.in-Some.is)

pub returns-clause-laid : goal.returns-clause-laid
returns-clause-laid c =
    let h = c.requires.away in
    has_laid _ _ _ _ _ h.stripe _ c.lay.new.self h.taken c.requires.fits (ap (λ (o : Plan). o.stripes) c.requires.at.plan ∙ c.args.self.now.stripes_is) (taken_stripe _ _ h.stripe _ _ h.away c.exchange.ensures.2 c.in-Some.is) c.lay.ensures
    (exchanged _ _ _ _ _ None (Some c.lay.new.self) h.away (ap (λ m. m.1) c.exchange.ensures.3) (ap (λ m. m.1) c.exchange-2.ensures.3))
