use Rattle.std.proofs.Common.{rules}
use Rattle.gq_value.proofs.PairLemmas.{to_fraction, from_fraction, from_uint, fraction_from_uint, two_fractions}
use Rattle.gq_value.proofs.RowLemmas.{rows_end}
use Rattle.gq_value.proofs.order.+order.Goals as goal

pub order_any-returns-in-Fraction-b : goal.order_any-returns-in-Fraction-b
order_any-returns-in-Fraction-b t c = rw (c.in-Int.is, c.in-Fraction-b.is) (to_fraction _ _ _ _ (search rules) c.int_to_fraction.ensures)

pub order_any-returns-in-Int-b-2 : goal.order_any-returns-in-Int-b-2
order_any-returns-in-Int-b-2 t c = rw (c.in-UInt.is, c.in-Int-b-2.is) (from_uint _ _ _ _ _ (search rules) c.int_to_uint-in-Int-b-2.ensures c.reverse.ensures)

pub order_any-returns-in-Int-b-3 : goal.order_any-returns-in-Int-b-3
order_any-returns-in-Int-b-3 t c = rw (c.in-Fraction.is, c.in-Int-b-3.is) (from_fraction _ _ _ _ _ (search rules) c.int_to_fraction-in-Int-b-3.ensures c.reverse-in-Int-b-3.ensures)

pub order_any-returns-in-UInt-b-3 : goal.order_any-returns-in-UInt-b-3
order_any-returns-in-UInt-b-3 t c = rw (c.in-Fraction.is, c.in-UInt-b-3.is) (fraction_from_uint _ _ _ _ _ c.uint_to_fraction-in-UInt-b-3.ensures c.reverse-in-UInt-b-3.ensures)

pub order_any-returns-in-Fraction-b-3 : goal.order_any-returns-in-Fraction-b-3
order_any-returns-in-Fraction-b-3 t c = rw (c.in-Fraction.is, c.in-Fraction-b-3.is) (two_fractions _ _ _ _ c.fractions.ensures)

pub order_rows-returns-then-a-b : goal.order_rows-returns-then-a-b
order_rows-returns-then-a-b t c = rows_end c.args.strict c.args.a.now c.args.b.now c.loop-i.i c.loop-i.invariant.1 c.loop-i-test.false c.loop-i.auto.i-end c.if-a-b.true
