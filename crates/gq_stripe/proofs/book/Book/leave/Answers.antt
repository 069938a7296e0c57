use Rattle.std.proofs.Common.{rules, arith, refl, ap, ◌∙◌}
use Rattle.gq_stripe.specs.Steps.{away_spoiled, left}
use Rattle.gq_stripe.proofs.PutLemmas.{leave_allowed}
use Rattle.gq_stripe.proofs.book.Book.leave.Goals as goal

pub overflow_mul-turn : goal.overflow_mul-turn
overflow_mul-turn c = let h = c.requires.at.inside in omega arith

pub overflow_add-turn : goal.overflow_add-turn
overflow_add-turn c = let h = c.requires.at.inside in omega arith

pub fetch_add-requires : goal.fetch_add-requires
fetch_add-requires c = let h = c.requires.at.inside in (search rules, omega arith, leave_allowed _ _ _ _ _ _ _ c.requires.away refl c.requires.at.live c.requires.at.plan)

pub returns-clause-left : goal.returns-clause-left
returns-clause-left c = let w = c.requires.away in let x = c.fetch_add.ensures.2 _ w.phase in (x.0, x.1 ∙ ap (left c.args.place.now.me.0 c.args.turn) (ap away_spoiled w.away ∙ w.is))
