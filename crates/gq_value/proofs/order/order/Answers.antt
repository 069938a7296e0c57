use Rattle.gq_value.proofs.PairLemmas.{two_ints}
use Rattle.gq_value.proofs.order.order.Goals as goal

pub returns-in-Int-b : goal.returns-in-Int-b
returns-in-Int-b c = rw (c.in-Int.is, c.in-Int-b.is) (two_ints _ _ _ _ c.cmp.ensures)
