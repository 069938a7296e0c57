use Rattle.std.proofs.Common.{arith}
use Rattle.jiff_core.proofs.SignedLemmas.{signed_casts}
use Rattle.gq_time.proofs.TimeLemmas.{date_parts, is_date, small_date}
use Rattle.gq_time.proofs.dates.date.Goals as goal

pub returns-in-Err-clause-none : goal.returns-in-Err-clause-none
returns-in-Err-clause-none c date shows =
    let three = c.in-Some.ensures.some in
    let small = small_date date shows.1 in
    let parts = date_parts c.args.text.now c.args.mark c.args.mark c.in-Some.parts date three shows in
    let none = c.in-Err.ensures.succeeds.1 (is_date date _ _ _ (omega (arith, signed_casts, parts)) (omega (arith, signed_casts, parts, date.month_in)) (omega (arith, signed_casts, parts, small.day))) in
    cc
