use Rattle.std.proofs.Common.{◌≡◌, arith}
use Rattle.jiff_core.specs.declared.civil.datetime.DateTime.{DateTime}
use Rattle.jiff_core.specs.DateTime.{civil_seconds}
use Rattle.jiff_core.proofs.SignedLemmas.{signed_casts, signed_arith}
use Rattle.gq_time.proofs.MomentLemmas.{civil_seconds-parts, year_in_range}
use Rattle.gq_time.proofs.moment.moment_of.Goals as goal

pub returns : goal.returns
returns c =
    let moment : DateTime = record { date = c.from_days_since_min.result; time = c.from_second.result } in
    let are : c.args.seconds ≡ civil_seconds moment = omega (arith, signed_casts, civil_seconds-parts moment) in
    record {
      are = are;
      from_year_0 = year_in_range moment (omega (arith, signed_arith, are));
      whole = c.from_second.ensures.subsec;
    }
