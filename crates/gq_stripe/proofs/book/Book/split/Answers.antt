use Rattle.std.proofs.Common.{rules}
use Rattle.gq_stripe.proofs.SeatLemmas.{splits}
use Rattle.gq_stripe.proofs.book.Book.split.Goals as goal

pub split_seat-place-requires : goal.split_seat-place-requires
split_seat-place-requires c = (search rules, search rules, splits _ _ _ (search rules) (search rules))
