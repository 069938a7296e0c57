use Rattle.std.proofs.Common.{arith}
use Rattle.jiff_core.proofs.SignedLemmas.{signed_casts}
use Rattle.gq_time.proofs.AddingLemmas.{constrained}
use Rattle.gq_time.proofs.adding.day_of_month.Goals as goal

pub returns-clause-month : goal.returns-clause-month
returns-clause-month c = omega (arith, signed_casts, c.constrain.ensures.year, c.constrain.ensures.month)

pub returns-clause-day : goal.returns-clause-day
returns-clause-day c = constrained c.constrain.result _ _ _ c.constrain.ensures.year c.constrain.ensures.month c.constrain.ensures.day

pub returns-clause-from_year_0 : goal.returns-clause-from_year_0
returns-clause-from_year_0 c = omega (arith, signed_casts, c.constrain.ensures.year)
