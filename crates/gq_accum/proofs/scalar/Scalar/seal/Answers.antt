use Rattle.std.proofs.Common.{rules, w64, FitsSigned}
use Rattle.gq_value.specs.declared.kind.Number.TheVariants as number
use Rattle.gq_accum.proofs.scalar.Scalar.seal.Goals as goal
use Rattle.std.proofs.Common.{FitsSigned}
use Rattle.std.specs.Int.{w128}
use Rattle.gq_accum.proofs.SealSteps.{seals_int, seals_uint, seals_average, seals_truth, seals_extreme, seals_number, beyond}

pub returns-in-Some : goal.returns-in-Some
returns-in-Some c = let f : FitsSigned w128 c.get.result = record { sfits = c.get.type_inv } in let g : FitsSigned w64 c.in-Some.n = search rules in rw c.in-SumInt.is (seals_int _ c.get.result c.in-Some.n f c.get.ensures g c.in-Some.ensures)

pub returns-in-None : goal.returns-in-None
returns-in-None c = let f : FitsSigned w128 c.get.result = record { sfits = c.get.type_inv } in rw c.in-SumInt.is (beyond number.Int _ c.get.result f c.get.ensures c.in-None.ensures)

pub returns-in-Some-uint_of : goal.returns-in-Some-uint_of
returns-in-Some-uint_of c = let f : FitsSigned w128 c.get-in-SumUInt.result = record { sfits = c.get-in-SumUInt.type_inv } in rw c.in-SumUInt.is (seals_uint _ c.get-in-SumUInt.result c.in-Some-uint_of.n f c.get-in-SumUInt.ensures c.in-Some-uint_of.ensures)

pub returns-in-None-uint_of : goal.returns-in-None-uint_of
returns-in-None-uint_of c = let f : FitsSigned w128 c.get-in-SumUInt.result = record { sfits = c.get-in-SumUInt.type_inv } in rw c.in-SumUInt.is (beyond number.UInt _ c.get-in-SumUInt.result f c.get-in-SumUInt.ensures c.in-None-uint_of.ensures)

pub returns-in-Some-fraction_of : goal.returns-in-Some-fraction_of
returns-in-Some-fraction_of c = rw c.in-Avg.is (seals_average c.in-Avg.mean c.in-Some-fraction_of.fraction c.in-Some-fraction_of.ensures)

pub returns-in-None-fraction_of : goal.returns-in-None-fraction_of
returns-in-None-fraction_of c = rw c.in-Avg.is c.in-None-fraction_of.ensures

pub returns-in-Or : goal.returns-in-Or
returns-in-Or c = seals_truth c.args.self.now c.in-Or.b c.in-Or.is

pub returns-in-MinUInt : goal.returns-in-MinUInt
returns-in-MinUInt c = seals_extreme c.args.self.now c.in-MinUInt.n c.in-MinUInt.is

pub returns-in-MinInt : goal.returns-in-MinInt
returns-in-MinInt c = let f : FitsSigned w64 c.in-MinInt.n = search rules in seals_number c.args.self.now c.in-MinInt.n f c.in-MinInt.is
