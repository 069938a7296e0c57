use Rattle.std.proofs.Common.{arith, length}
use Rattle.std.proofs.lemmas.Bool.Decides.{nat_tests}
use Rattle.jiff_core.proofs.SignedLemmas.{signed_casts}
use Rattle.gq_time.proofs.DigitLemmas.{few_digits}
use Rattle.gq_time.proofs.PlaceLemmas.{sized}
use Rattle.gq_time.proofs.CountLemmas.{count_long, count_is}
use Rattle.gq_time.proofs.counts.counted.Goals as goal
use Rattle.gq_time.proofs.counts.counted.Goals.{then-is_empty-via-then-is_empty, then-is_empty-via-else-is_empty+then-text-gt12, then-negative, else-negative}

pub returns-then-is_empty-clause-none : goal.returns-then-is_empty-clause-none
returns-then-is_empty-clause-none c seconds h =
    let long = count_long c.args.negative c.args.text.now seconds h in
    elim c.then-is_empty.branch [
      | then-is_empty-via-then-is_empty w ↦ grind (arith, nat_tests, w.if-is_empty.ensures, long)
      | then-is_empty-via-else-is_empty+then-text-gt12 w ↦ omega arith
    ]

pub overflow_cast-size : goal.overflow_cast-size
overflow_cast-size c =
    let few = few_digits (length c.args.text.now) c.in-Some.number (omega arith) c.in-Some.ensures.some.fits in
    omega (arith, signed_casts)

pub returns-in-None-clause-none : goal.returns-in-None-clause-none
returns-in-None-clause-none c seconds h = c.in-None.ensures.none h.number (sized c.args.text.now h.size h.number h.whole)

pub overflow_sub-seconds : goal.overflow_sub-seconds
overflow_sub-seconds c =
    let few = few_digits (length c.args.text.now) c.in-Some.number (omega arith) c.in-Some.ensures.some.fits in
    omega (arith, signed_casts)

pub returns-else-in_range-clause-none : goal.returns-else-in_range-clause-none
returns-else-in_range-clause-none c seconds h =
    let few = few_digits (length c.args.text.now) c.in-Some.number (omega arith) c.in-Some.ensures.some.fits in
    let is = count_is c.args.negative c.args.text.now seconds c.in-Some.number c.in-Some.ensures.some h in
    let range = h.in_range in
    elim c.if-negative.branch [
      | then-negative w ↦ let same = rw w.if-negative.true at is in let no = c.if-in_range.ensures.1 (omega (arith, signed_casts, w.seconds-is, same)) in cc
      | else-negative w ↦ let same = rw w.if-negative.false at is in let no = c.if-in_range.ensures.1 (omega (arith, signed_casts, w.seconds-is, same)) in cc
    ]
