use Rattle.std.proofs.Common.{rules, ℕ, w64, ℤ, pos, FitsSigned}
use Rattle.gq_accum.proofs.folding.ScalarFold.feed.Goals as goal
use Rattle.std.proofs.Common.{refl, ap₂}
use Rattle.gq_accum.proofs.NumberSteps.{min_is, max_is, umin_is, umax_is, either_is, both_is}
use Rattle.gq_accum.proofs.SumSteps.{near, near_pos, widened, fed_is, count_is, count_room}

pub returns-in-SumInt-clause-fed : goal.returns-in-SumInt-clause-fed
returns-in-SumInt-clause-fed c = let f : FitsSigned w64 c.int.result = record { sfits = c.int.type_inv } in rw c.in-SumInt.is (λ s h. rw (c.int.ensures s) (fed_is _ c.get.result c.from.result c.int.result c.total.result _ c.get.ensures c.of.ensures c.total.ensures h (near c.int.result f) (widened c.int.result c.from.result f c.from.ensures)))

pub returns-in-SumUInt-clause-fed : goal.returns-in-SumUInt-clause-fed
returns-in-SumUInt-clause-fed c = rw c.in-SumUInt.is (λ s h. rw (c.uint.ensures s) (fed_is _ c.get-in-SumUInt.result c.from-in-SumUInt.result (pos c.uint.result) c.total-in-SumUInt.result _ c.get-in-SumUInt.ensures c.of-in-SumUInt.ensures c.total-in-SumUInt.ensures h (near_pos c.uint.result c.uint.type_inv) c.from-in-SumUInt.ensures))

pub returns-in-MinInt-clause-fed : goal.returns-in-MinInt-clause-fed
returns-in-MinInt-clause-fed c = let f : FitsSigned w64 c.int-in-MinInt.result = search rules in let g : FitsSigned w64 c.in-MinInt.least = search rules in let h : FitsSigned w64 c.min.result = search rules in rw c.in-MinInt.is (λ s room. rw (c.int-in-MinInt.ensures s) (min_is c.int-in-MinInt.result c.in-MinInt.least c.min.result f g h c.min.ensures.value))

pub returns-in-MinUInt-clause-fed : goal.returns-in-MinUInt-clause-fed
returns-in-MinUInt-clause-fed c = rw c.in-MinUInt.is (λ s room. rw (c.uint-in-MinUInt.ensures s) (umin_is c.uint-in-MinUInt.result c.in-MinUInt.least c.min-in-MinUInt.result c.min-in-MinUInt.ensures))

pub returns-in-MaxInt-clause-fed : goal.returns-in-MaxInt-clause-fed
returns-in-MaxInt-clause-fed c = let f : FitsSigned w64 c.int-in-MaxInt.result = search rules in let g : FitsSigned w64 c.in-MaxInt.most = search rules in let h : FitsSigned w64 c.max.result = search rules in rw c.in-MaxInt.is (λ s room. rw (c.int-in-MaxInt.ensures s) (max_is c.int-in-MaxInt.result c.in-MaxInt.most c.max.result f g h c.max.ensures.value))

pub returns-in-MaxUInt-clause-fed : goal.returns-in-MaxUInt-clause-fed
returns-in-MaxUInt-clause-fed c = rw c.in-MaxUInt.is (λ s room. rw (c.uint-in-MaxUInt.ensures s) (umax_is c.uint-in-MaxUInt.result c.in-MaxUInt.most c.max-in-MaxUInt.result c.max-in-MaxUInt.ensures))

pub returns-then-truth-clause-fed : goal.returns-then-truth-clause-fed
returns-then-truth-clause-fed c = rw c.in-Or.is (λ s room. rw (c.truth.ensures s, c.if-truth.true) refl)

pub returns-else-truth-clause-fed : goal.returns-else-truth-clause-fed
returns-else-truth-clause-fed c = rw c.in-Or.is (λ s room. rw (c.truth.ensures s, c.if-truth.false) refl)

pub returns-then-truth-2-clause-fed : goal.returns-then-truth-2-clause-fed
returns-then-truth-2-clause-fed c = rw c.in-And.is (λ s room. rw (c.truth-in-And.ensures s, c.if-truth-2.true) refl)

pub returns-else-truth-2-clause-fed : goal.returns-else-truth-2-clause-fed
returns-else-truth-2-clause-fed c = rw c.in-And.is (λ s room. rw (c.truth-in-And.ensures s, c.if-truth-2.false) refl)

pub returns-in-BitOr-clause-fed : goal.returns-in-BitOr-clause-fed
returns-in-BitOr-clause-fed c = let f : FitsSigned w64 c.int-in-BitOr.result = search rules in let g : FitsSigned w64 c.in-BitOr.bits = search rules in rw c.in-BitOr.is (λ s room. rw (c.int-in-BitOr.ensures s) (either_is c.int-in-BitOr.result c.in-BitOr.bits f g))

pub returns-in-BitAnd-clause-fed : goal.returns-in-BitAnd-clause-fed
returns-in-BitAnd-clause-fed c = let f : FitsSigned w64 c.int-in-BitAnd.result = search rules in let g : FitsSigned w64 c.in-BitAnd.bits = search rules in rw c.in-BitAnd.is (λ s room. rw (c.int-in-BitAnd.ensures s) (both_is c.int-in-BitAnd.result c.in-BitAnd.bits f g))

pub returns-in-Avg-clause-fed : goal.returns-in-Avg-clause-fed
returns-in-Avg-clause-fed c = let f : FitsSigned w64 c.int-in-Avg.result = record { sfits = c.int-in-Avg.type_inv } in rw c.in-Avg.is (λ s h. rw (c.int-in-Avg.ensures s) (ap₂ (λ (m : ℤ) (n : ℕ). (m, n)) (fed_is _ c.get-in-Avg.result c.from-in-Avg.result c.int-in-Avg.result c.total-in-Avg.result _ c.get-in-Avg.ensures c.of-in-Avg.ensures c.total-in-Avg.ensures (h.0, h.1, h.2.0) (near c.int-in-Avg.result f) (widened c.int-in-Avg.result c.from-in-Avg.result f c.from-in-Avg.ensures)) (count_is _ 1 c.get-in-Avg-2.result 1 c.count.result _ c.get-in-Avg-2.ensures refl c.of-in-Avg-2.ensures c.count.ensures (count_room _ h.0 h.1 h.2.1))))
