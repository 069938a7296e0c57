use Rattle.std.proofs.Common.{refl, arith, FitsSigned, w64}
use Rattle.std.proofs.lemmas.Int.{ints, to_z-of_z}
use Rattle.jiff_core.specs.declared.civil.datetime.DateTime.{DateTime}
use Rattle.gq_time.specs.Moments.{IsMoment}
use Rattle.gq_time.proofs.AddingLemmas.{months_later_bound, months_later_one}
use Rattle.gq_time.proofs.MomentLemmas.{moment_in_range}
use Rattle.gq_time.proofs.adding.add_months.Goals as goal
use Rattle.gq_time.proofs.adding.add_months.Goals.{then-to-lt1-via-then-to-lt1, then-to-lt1-via-else-to-lt1+then-to-gt120000}

pub returns-in-None-clause-none : goal.returns-in-None-clause-none
returns-in-None-clause-none c other h =
    let fits : FitsSigned w64 c.args.seconds = c.ranges.seconds in
    let of : IsMoment c.args.seconds c.moment_of-before.result = simp to_z-of_z at c.moment_of-before.ensures in
    let bound = months_later_bound c.args.months c.args.seconds other c.moment_of-before.result of h in
    c.in-None.ensures (omega (arith, ints))

pub returns-then-to-lt1-clause-none : goal.returns-then-to-lt1-clause-none
returns-then-to-lt1-clause-none c other h =
    let fits : FitsSigned w64 c.args.seconds = c.ranges.seconds in
    let of : IsMoment c.args.seconds c.moment_of-before.result = simp to_z-of_z at c.moment_of-before.ensures in
    let bound = months_later_bound c.args.months c.args.seconds other c.moment_of-before.result of h in
    let sum = c.in-Some.ensures in
    elim c.then-to-lt1.branch [
      | then-to-lt1-via-then-to-lt1 w ↦ omega (arith, ints)
      | then-to-lt1-via-else-to-lt1+then-to-gt120000 w ↦ omega (arith, ints)
    ]

pub returns-clause-some : goal.returns-clause-some
returns-clause-some c =
    let fits : FitsSigned w64 c.args.seconds = c.ranges.seconds in
    let of : IsMoment c.args.seconds c.moment_of-before.result = simp to_z-of_z at c.moment_of-before.ensures in
    let after : DateTime = record { date = c.day_of_month-date.result; time = c.moment_of-before.result.time } in
    record {
      from = c.moment_of-before.result;
      to = after;
      of_from = of;
      of_to = record {
        are = omega (arith, ints, c.to_second.ensures.value);
        from_year_0 = c.day_of_month-date.ensures.from_year_0;
        whole = of.whole;
      };
      later = record {
        month = omega (arith, ints, c.day_of_month-date.ensures.month, c.in-Some.ensures);
        day = c.day_of_month-date.ensures.day;
        time = refl;
      };
    }

pub returns-clause-only : goal.returns-clause-only
returns-clause-only c = λ other h. months_later_one c.args.months c.args.seconds other _ h (returns-clause-some c)

pub returns-clause-in_range : goal.returns-clause-in_range
returns-clause-in_range c =
    let some = returns-clause-some c in
    moment_in_range _ some.to some.of_to
