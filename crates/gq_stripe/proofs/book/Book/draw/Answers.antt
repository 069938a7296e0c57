use Rattle.std.proofs.Common.{rules, arith}
use Rattle.gq_stripe.proofs.RuleLemmas.{draws_one}
use Rattle.gq_stripe.proofs.PutLemmas.{idle_of}
use Rattle.gq_stripe.proofs.book.Book.draw.Goals as goal

pub fetch_add-number-requires : goal.fetch_add-number-requires
fetch_add-number-requires c = (search rules, omega arith, draws_one _ _ _ _ (idle_of _ _ c.args.seat.now.phase_is c.requires.free c.requires.live) (search rules))
