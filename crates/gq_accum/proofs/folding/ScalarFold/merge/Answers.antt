use Rattle.std.proofs.Common.{rules, ℕ, w64, ℤ, FitsSigned}
use Rattle.gq_accum.proofs.folding.ScalarFold.merge.Goals as goal
use Rattle.std.proofs.Common.{refl, ap₂}
use Rattle.gq_accum.proofs.NumberSteps.{min_is, max_is, umin_is, umax_is, either_is, both_is}
use Rattle.gq_accum.proofs.SumSteps.{sum_is, count_is, counts_room}

pub returns-in-SumInt-SumInt-clause-joined : goal.returns-in-SumInt-SumInt-clause-joined
returns-in-SumInt-SumInt-clause-joined c = rw (c.in-SumInt-SumInt.is-0, c.in-SumInt-SumInt.is-1) (λ k h g. sum_is _ _ c.get.result c.get-in-SumInt-SumInt.result c.total.result _ c.get.ensures c.get-in-SumInt-SumInt.ensures c.of.ensures c.total.ensures h g)

pub returns-in-SumUInt-SumUInt-clause-joined : goal.returns-in-SumUInt-SumUInt-clause-joined
returns-in-SumUInt-SumUInt-clause-joined c = rw (c.in-SumUInt-SumUInt.is-0, c.in-SumUInt-SumUInt.is-1) (λ k h g. sum_is _ _ c.get-in-SumUInt-SumUInt.result c.get-in-SumUInt-SumUInt-2.result c.total-in-SumUInt-SumUInt.result _ c.get-in-SumUInt-SumUInt.ensures c.get-in-SumUInt-SumUInt-2.ensures c.of-in-SumUInt-SumUInt.ensures c.total-in-SumUInt-SumUInt.ensures h g)

pub returns-in-MinInt-MinInt-clause-joined : goal.returns-in-MinInt-MinInt-clause-joined
returns-in-MinInt-MinInt-clause-joined c = let f : FitsSigned w64 c.in-MinInt-MinInt.a = search rules in let g : FitsSigned w64 c.in-MinInt-MinInt.b = search rules in let h : FitsSigned w64 c.min.result = search rules in rw (c.in-MinInt-MinInt.is-0, c.in-MinInt-MinInt.is-1) (λ same room other_room. min_is c.in-MinInt-MinInt.a c.in-MinInt-MinInt.b c.min.result f g h c.min.ensures.value)

pub returns-in-MinUInt-MinUInt-clause-joined : goal.returns-in-MinUInt-MinUInt-clause-joined
returns-in-MinUInt-MinUInt-clause-joined c = rw (c.in-MinUInt-MinUInt.is-0, c.in-MinUInt-MinUInt.is-1) (λ same room other_room. umin_is c.in-MinUInt-MinUInt.a c.in-MinUInt-MinUInt.b c.min-in-MinUInt-MinUInt.result c.min-in-MinUInt-MinUInt.ensures)

pub returns-in-MaxInt-MaxInt-clause-joined : goal.returns-in-MaxInt-MaxInt-clause-joined
returns-in-MaxInt-MaxInt-clause-joined c = let f : FitsSigned w64 c.in-MaxInt-MaxInt.a = search rules in let g : FitsSigned w64 c.in-MaxInt-MaxInt.b = search rules in let h : FitsSigned w64 c.max.result = search rules in rw (c.in-MaxInt-MaxInt.is-0, c.in-MaxInt-MaxInt.is-1) (λ same room other_room. max_is c.in-MaxInt-MaxInt.a c.in-MaxInt-MaxInt.b c.max.result f g h c.max.ensures.value)

pub returns-in-MaxUInt-MaxUInt-clause-joined : goal.returns-in-MaxUInt-MaxUInt-clause-joined
returns-in-MaxUInt-MaxUInt-clause-joined c = rw (c.in-MaxUInt-MaxUInt.is-0, c.in-MaxUInt-MaxUInt.is-1) (λ same room other_room. umax_is c.in-MaxUInt-MaxUInt.a c.in-MaxUInt-MaxUInt.b c.max-in-MaxUInt-MaxUInt.result c.max-in-MaxUInt-MaxUInt.ensures)

pub returns-then-a-clause-joined : goal.returns-then-a-clause-joined
returns-then-a-clause-joined c = rw (c.in-Or-Or.is-0, c.in-Or-Or.is-1, c.if-a.true) (λ k h g. refl)

pub returns-else-a-clause-joined : goal.returns-else-a-clause-joined
returns-else-a-clause-joined c = rw (c.in-Or-Or.is-0, c.in-Or-Or.is-1, c.if-a.false) (λ k h g. refl)

pub returns-then-a-2-clause-joined : goal.returns-then-a-2-clause-joined
returns-then-a-2-clause-joined c = rw (c.in-And-And.is-0, c.in-And-And.is-1, c.if-a-2.true) (λ k h g. refl)

pub returns-else-a-2-clause-joined : goal.returns-else-a-2-clause-joined
returns-else-a-2-clause-joined c = rw (c.in-And-And.is-0, c.in-And-And.is-1, c.if-a-2.false) (λ k h g. refl)

pub returns-in-BitOr-BitOr-clause-joined : goal.returns-in-BitOr-BitOr-clause-joined
returns-in-BitOr-BitOr-clause-joined c = let f : FitsSigned w64 c.in-BitOr-BitOr.a = search rules in let g : FitsSigned w64 c.in-BitOr-BitOr.b = search rules in rw (c.in-BitOr-BitOr.is-0, c.in-BitOr-BitOr.is-1) (λ same room other_room. either_is c.in-BitOr-BitOr.a c.in-BitOr-BitOr.b f g)

pub returns-in-BitAnd-BitAnd-clause-joined : goal.returns-in-BitAnd-BitAnd-clause-joined
returns-in-BitAnd-BitAnd-clause-joined c = let f : FitsSigned w64 c.in-BitAnd-BitAnd.a = search rules in let g : FitsSigned w64 c.in-BitAnd-BitAnd.b = search rules in rw (c.in-BitAnd-BitAnd.is-0, c.in-BitAnd-BitAnd.is-1) (λ same room other_room. both_is c.in-BitAnd-BitAnd.a c.in-BitAnd-BitAnd.b f g)

pub returns-in-Avg-Avg-clause-joined : goal.returns-in-Avg-Avg-clause-joined
returns-in-Avg-Avg-clause-joined c = rw (c.in-Avg-Avg.is-0, c.in-Avg-Avg.is-1) (λ k h g. ap₂ (λ (m : ℤ) (n : ℕ). (m, n)) (sum_is _ _ c.get-in-Avg-Avg.result c.get-in-Avg-Avg-2.result c.total-in-Avg-Avg.result _ c.get-in-Avg-Avg.ensures c.get-in-Avg-Avg-2.ensures c.of-in-Avg-Avg.ensures c.total-in-Avg-Avg.ensures (h.0, h.1, h.2.0) (g.0, g.1, g.2.0)) (count_is _ _ c.get-in-Avg-Avg-3.result c.get-in-Avg-Avg-4.result c.count.result _ c.get-in-Avg-Avg-3.ensures c.get-in-Avg-Avg-4.ensures c.of-in-Avg-Avg-2.ensures c.count.ensures (counts_room _ _ h.0 g.0 h.1 g.1 h.2.1 g.2.1)))
