use Rattle.std.proofs.Common.{arith, FitsSigned, w64}
use Rattle.std.proofs.lemmas.Int.{to_z-of_z}
use Rattle.jiff_core.proofs.SignedLemmas.{signed_casts}
use Rattle.gq_time.proofs.MomentLemmas.{parts_same}
use Rattle.gq_time.proofs.moment.parts.Goals as goal

pub returns-clause-parts : goal.returns-clause-parts
returns-clause-parts c =
    let fits : FitsSigned w64 c.args.seconds = c.ranges.seconds in (
      c.moment_of-moment.result,
      simp to_z-of_z at c.moment_of-moment.ensures,
      record {
        year = omega (arith, signed_casts);
        month = omega (arith, signed_casts);
        day = omega (arith, signed_casts);
        hour = omega (arith, signed_casts);
        minute = omega (arith, signed_casts);
        second = omega (arith, signed_casts);
      },
    )

pub returns-clause-only : goal.returns-clause-only
returns-clause-only c = λ other h. parts_same c.args.seconds other _ h (returns-clause-parts c)
