use Rattle.std.proofs.Common.{rules}
use Rattle.gq_stripe.proofs.SeatLemmas.{joins, counts}
use Rattle.gq_stripe.proofs.PutLemmas.{free_of, nil_of}
use Rattle.gq_stripe.proofs.book.Book.join.Goals as goal

pub join_seat-requires : goal.join_seat-requires
join_seat-requires c = (
  search rules,
  search rules,
  nil_of _ c.args.other.bare.0,
  search rules,
  joins _ _ _ _ _ (search rules) (search rules)
      (free_of _ _ c.args.seat.now.phase_is c.requires.free) (free_of _ _ c.args.other.phase_is c.requires.other_free),
)

pub load-requires : goal.load-requires
load-requires c = (search rules, search rules, counts _ _ _ _)
