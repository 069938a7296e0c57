use Rattle.std.proofs.Common.{Some, None, sym, ap, arith}
use Rattle.gq_rules_calendar.specs.Gregorian.{gregorian}
use Rattle.gq_stripe.specs.Seats as stripes
use Rattle.gq_words.specs.declared.view.View as words
use Rattle.gq_parallel_tests.proofs.BlockLemmas.{one_spare, sums_flat, sums_layout}
use Rattle.gq_parallel_tests.proofs.blocks.held_among.Goals as goal

pub open_tables-requires-clause-flat : goal.open_tables-requires-clause-flat
open_tables-requires-clause-flat g c = sums_flat c.args.over.now.frame.accums.slots c.requires.sums

pub closed-requires-clause-task : goal.closed-requires-clause-task
closed-requires-clause-task g c κs within = record {
  ends_are = c.requires.ends;
  candidates = c.requires.candidates;
  some = omega arith;
  place = Some 2;
  is_place = sym c.requires.edge;
  tables = λ edge at. c.in_ok-tables.ensures.tables gregorian c.args.block.now c.args.ends.now edge;
}

pub closed-requires-clause-sums : goal.closed-requires-clause-sums
closed-requires-clause-sums g c κs within =
    sums_layout (stripes.plan_of c.in_ok-tables.tables.book) c.args.over.now.frame.accums.slots c.requires.sums
    (c.in_ok-tables.ensures.tables gregorian c.args.block.now c.args.ends.now None).layout

pub closed-requires-clause-spare : goal.closed-requires-clause-spare
closed-requires-clause-spare g c κs within =
    one_spare (stripes.plan_of c.in_ok-tables.tables.book) (stripes.view_of c.in_ok-tables.tables.seat) c.in_ok-tables.ensures.seat.1 c.in_ok-tables.ensures.seats

pub closed-requires-clause-word_spare : goal.closed-requires-clause-word_spare
closed-requires-clause-word_spare g c κs within = let s = ap (λ (w : words.View). w.spare) c.in_ok-tables.ensures.word_seat.1 in omega (arith, s)
