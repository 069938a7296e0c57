use Rattle.std.proofs.Common.{w64, pos, FitsSigned}
use Rattle.gq_accum.proofs.scalar.Scalar.set.Goals as goal
use Rattle.std.proofs.Common.{refl, pos}
use Rattle.std.proofs.lemmas.Int.{to_z-of_z}
use Rattle.gq_accum.proofs.SumSteps.{near, near_pos, widened, kept_near}

pub returns-in-SumInt-clause-set : goal.returns-in-SumInt-clause-set
returns-in-SumInt-clause-set c = let f : FitsSigned w64 c.int.result = record { sfits = c.int.type_inv } in let s = rw c.in-SumInt.is at c.requires.takes in rw (c.in-SumInt.is, c.int.ensures s) (kept_near c.int.result c.from.result _ (near c.int.result f) (widened c.int.result c.from.result f c.from.ensures) c.of.ensures)

pub returns-in-SumUInt-clause-set : goal.returns-in-SumUInt-clause-set
returns-in-SumUInt-clause-set c = let s = rw c.in-SumUInt.is at c.requires.takes in rw (c.in-SumUInt.is, c.uint.ensures s) (kept_near (pos c.uint.result) c.from-in-SumUInt.result _ (near_pos c.uint.result c.uint.type_inv) c.from-in-SumUInt.ensures c.of-in-SumUInt.ensures)

pub returns-in-MinInt-clause-set : goal.returns-in-MinInt-clause-set
returns-in-MinInt-clause-set c = let s = rw c.in-MinInt.is at c.requires.takes in rw (c.in-MinInt.is, c.int-in-MinInt.ensures s) (to_z-of_z w64 c.int-in-MinInt.result (record { sfits = c.int-in-MinInt.type_inv }))

pub returns-in-MinUInt-clause-set : goal.returns-in-MinUInt-clause-set
returns-in-MinUInt-clause-set c = let s = rw c.in-MinUInt.is at c.requires.takes in rw (c.in-MinUInt.is, c.uint-in-MinUInt.ensures s) refl

pub returns-in-MaxInt-clause-set : goal.returns-in-MaxInt-clause-set
returns-in-MaxInt-clause-set c = let s = rw c.in-MaxInt.is at c.requires.takes in rw (c.in-MaxInt.is, c.int-in-MaxInt.ensures s) (to_z-of_z w64 c.int-in-MaxInt.result (record { sfits = c.int-in-MaxInt.type_inv }))

pub returns-in-MaxUInt-clause-set : goal.returns-in-MaxUInt-clause-set
returns-in-MaxUInt-clause-set c = let s = rw c.in-MaxUInt.is at c.requires.takes in rw (c.in-MaxUInt.is, c.uint-in-MaxUInt.ensures s) refl

pub returns-in-Or-clause-set : goal.returns-in-Or-clause-set
returns-in-Or-clause-set c = let s = rw c.in-Or.is at c.requires.takes in rw (c.in-Or.is, c.truth.ensures s) refl

pub returns-in-And-clause-set : goal.returns-in-And-clause-set
returns-in-And-clause-set c = let s = rw c.in-And.is at c.requires.takes in rw (c.in-And.is, c.truth-in-And.ensures s) refl

pub returns-in-BitOr-clause-set : goal.returns-in-BitOr-clause-set
returns-in-BitOr-clause-set c = let s = rw c.in-BitOr.is at c.requires.takes in rw (c.in-BitOr.is, c.int-in-BitOr.ensures s) (to_z-of_z w64 c.int-in-BitOr.result (record { sfits = c.int-in-BitOr.type_inv }))

pub returns-in-BitAnd-clause-set : goal.returns-in-BitAnd-clause-set
returns-in-BitAnd-clause-set c = let s = rw c.in-BitAnd.is at c.requires.takes in rw (c.in-BitAnd.is, c.int-in-BitAnd.ensures s) (to_z-of_z w64 c.int-in-BitAnd.result (record { sfits = c.int-in-BitAnd.type_inv }))
