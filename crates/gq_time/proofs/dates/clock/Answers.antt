use Rattle.std.proofs.Common.{arith}
use Rattle.jiff_core.proofs.SignedLemmas.{signed_casts}
use Rattle.gq_time.proofs.TimeLemmas.{clock_parts, is_time}
use Rattle.gq_time.proofs.dates.clock.Goals as goal

pub returns-in-Err-clause-none : goal.returns-in-Err-clause-none
returns-in-Err-clause-none c time is =
    let three = c.in-Some.ensures.some in
    let parts = clock_parts c.args.text.now c.in-Some.parts time three is in
    let none = c.in-Err.ensures.succeeds.1 (is_time time _ _ _ (omega (arith, signed_casts, parts, time.hour_in)) (omega (arith, signed_casts, parts, time.minute_in)) (omega (arith, signed_casts, parts, time.second_in))) in
    cc
