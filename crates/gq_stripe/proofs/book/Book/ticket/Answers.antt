use Rattle.std.proofs.Common.{rules, arith, refl}
use Rattle.gq_stripe.proofs.TurnLemmas.{ticket_one}
use Rattle.gq_stripe.proofs.book.Book.ticket.Goals as goal

pub overflow_mul-j : goal.overflow_mul-j
overflow_mul-j g c = let h = c.requires.at.inside in omega arith

pub overflow_add-j : goal.overflow_add-j
overflow_add-j g c = let h = c.requires.at.inside in omega arith

pub fetch_add-requires : goal.fetch_add-requires
fetch_add-requires g c = let h = c.requires.at.inside in (search rules, omega arith, ticket_one _ _ _ _ _ _ _ _ c.requires.holds.0 refl c.requires.at.live)
