use Rattle.std.proofs.Common.{FitsSigned}
use Rattle.gq_accum.proofs.scalar.Scalar.fits.Goals as goal
use Rattle.std.proofs.Common.{FitsSigned}
use Rattle.std.specs.Int.{w128}
use Rattle.gq_accum.proofs.SealSteps.{judged_int, judged_uint, judged_average}

pub returns-in-SumInt : goal.returns-in-SumInt
returns-in-SumInt c = let f : FitsSigned w128 c.get.result = record { sfits = c.get.type_inv } in rw c.in-SumInt.is (judged_int _ c.get.result c.int_of.result c.is_some.result f c.get.ensures c.is_some.ensures c.int_of.ensures)

pub returns-in-SumUInt : goal.returns-in-SumUInt
returns-in-SumUInt c = let f : FitsSigned w128 c.get-in-SumUInt.result = record { sfits = c.get-in-SumUInt.type_inv } in rw c.in-SumUInt.is (judged_uint _ c.get-in-SumUInt.result c.uint_of.result c.is_some-in-SumUInt.result f c.get-in-SumUInt.ensures c.is_some-in-SumUInt.ensures c.uint_of.ensures)

pub returns-in-Avg : goal.returns-in-Avg
returns-in-Avg c = rw c.in-Avg.is (judged_average c.in-Avg.mean c.fraction_of.result c.is_some-in-Avg.result c.is_some-in-Avg.ensures c.fraction_of.ensures)
