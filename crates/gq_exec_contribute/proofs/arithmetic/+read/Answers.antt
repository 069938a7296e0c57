use Rattle.std.proofs.Common.{◌+◌, rules, subst, sym, to_z, of_z}
use Rattle.std.specs.Prelude.{IfSome}
use Rattle.std.specs.Int.{w64}
use Rattle.std.specs.Int.RustNames.{FitsSigned}
use Rattle.std.proofs.lemmas.Int.{to_z-of_z}
use Rattle.gq_rules_calendar.specs.Gregorian.{gregorian}
use Rattle.gq_exec_contribute.specs.Prepared.{AreFactors, AreTerms, IsInt, sees_in}
use Rattle.gq_exec_contribute.proofs.NameLemmas.{moved, post_view}
use Rattle.gq_exec_contribute.proofs.ArithmeticLemmas.{FactorsTo, TermsTo, factors_end, factors_next, terms_end, terms_next, whole_product, whole_sum}
use Rattle.gq_exec_contribute.proofs.arithmetic.+read.Goals as goal

pub read_int-returns-in_ok-x-in-Sum : goal.read_int-returns-in_ok-x-in-Sum
read_int-returns-in_ok-x-in-Sum t c = whole_sum (sees_in gregorian c.args.over.now c.args.leaves.now c.args.accums.now c.args.c.now) c.args.expr.now c.in-Sum.first c.get.result.now c.in-Sum.terms c.as_slice.result.now c.in_ok-x-in-Sum.x c.sum_from.result c.in-Sum.is c.get.ensures c.as_slice.ensures c.in_ok-x-in-Sum.ensures
    (subst (λ x. IfSome c.sum_from.result (AreTerms (sees_in gregorian c.args.over.now c.args.leaves.now c.args.accums.now c.args.c.now) x c.as_slice.result.now)) (to_z-of_z w64 c.in_ok-x-in-Sum.x (search rules)) c.sum_from.ensures)

pub read_int-returns-in_ok-x-in-Mul : goal.read_int-returns-in_ok-x-in-Mul
read_int-returns-in_ok-x-in-Mul t c = whole_product (sees_in gregorian c.args.over.now c.args.leaves.now c.args.accums.now c.args.c.now) c.args.expr.now c.in-Mul.first c.get-in-Mul.result.now c.in-Mul.factors c.as_slice-in-Mul.result.now c.in_ok-x-in-Mul.x c.product_from.result c.in-Mul.is c.get-in-Mul.ensures c.as_slice-in-Mul.ensures c.in_ok-x-in-Mul.ensures
    (subst (λ x. IfSome c.product_from.result (AreFactors (sees_in gregorian c.args.over.now c.args.leaves.now c.args.accums.now c.args.c.now) x c.as_slice-in-Mul.result.now)) (to_z-of_z w64 c.in_ok-x-in-Mul.x (search rules)) c.product_from.ensures)

pub read_int-returns-in-None : goal.read_int-returns-in-None
read_int-returns-in-None t c =
    moved (IsInt (sees_in gregorian c.args.over.now c.args.leaves.now c.args.accums.now c.args.c.now)) _ _ c.int_of_parts.result (post_view c.args.expr.now c.in-Post.first c.get-in-None.result.now c.in-Post.parts c.as_slice-in-None.result.now c.in-Post.is c.get-in-None.ensures c.as_slice-in-None.ensures) c.int_of_parts.ensures

-- ---- operands in order

pub sum_from-loop-term-preserved : goal.sum_from-loop-term-preserved
sum_from-loop-term-preserved t c =
    let y : FitsSigned w64 c.in_ok-y.y = search rules in
    let x : FitsSigned w64 c.in_ok-x.x = search rules in
    subst (λ z. TermsTo (sees_in gregorian c.args.over.now c.args.leaves.now c.args.accums.now c.args.c.now) (to_z w64 (of_z w64 c.args.first)) c.args.terms.now (c.loop-term.term-index + 1) z) (sym (to_z-of_z w64 c.in_ok-x.x x))
    (terms_next (sees_in gregorian c.args.over.now c.args.leaves.now c.args.accums.now c.args.c.now) (to_z w64 (of_z w64 c.args.first)) (to_z w64 c.loop-term.x-bits) c.in_ok-y.y c.in_ok-x.x c.args.terms.now c.loop-term.term-index c.term-item.result
    c.loop-term.invariant c.loop-term-test.true c.term-item.is c.in_ok-y.ensures (rw (to_z-of_z w64 c.in_ok-y.y y) at c.in_ok-x.ensures))

pub sum_from-returns : goal.sum_from-returns
sum_from-returns t c =
    subst (λ x. AreTerms (sees_in gregorian c.args.over.now c.args.leaves.now c.args.accums.now c.args.c.now) x c.args.terms.now (to_z w64 c.loop-term.x-bits)) (to_z-of_z w64 c.args.first (search rules))
    (terms_end (sees_in gregorian c.args.over.now c.args.leaves.now c.args.accums.now c.args.c.now) (to_z w64 (of_z w64 c.args.first)) (to_z w64 c.loop-term.x-bits) c.args.terms.now c.loop-term.term-index c.loop-term.invariant c.loop-term-test.false)

pub product_from-loop-factor-preserved : goal.product_from-loop-factor-preserved
product_from-loop-factor-preserved t c =
    let y : FitsSigned w64 c.in_ok-y.y = search rules in
    let x : FitsSigned w64 c.in_ok-x.x = search rules in
    subst (λ z. FactorsTo (sees_in gregorian c.args.over.now c.args.leaves.now c.args.accums.now c.args.c.now) (to_z w64 (of_z w64 c.args.first)) c.args.factors.now (c.loop-factor.factor-index + 1) z) (sym (to_z-of_z w64 c.in_ok-x.x x))
    (factors_next (sees_in gregorian c.args.over.now c.args.leaves.now c.args.accums.now c.args.c.now) (to_z w64 (of_z w64 c.args.first)) (to_z w64 c.loop-factor.x-bits) c.in_ok-y.y c.in_ok-x.x c.args.factors.now c.loop-factor.factor-index c.factor-item.result
    c.loop-factor.invariant c.loop-factor-test.true c.factor-item.is c.in_ok-y.ensures (simp to_z-of_z at c.in_ok-x.ensures))

pub product_from-returns : goal.product_from-returns
product_from-returns t c =
    subst (λ x. AreFactors (sees_in gregorian c.args.over.now c.args.leaves.now c.args.accums.now c.args.c.now) x c.args.factors.now (to_z w64 c.loop-factor.x-bits)) (to_z-of_z w64 c.args.first (search rules))
    (factors_end (sees_in gregorian c.args.over.now c.args.leaves.now c.args.accums.now c.args.c.now) (to_z w64 (of_z w64 c.args.first)) (to_z w64 c.loop-factor.x-bits) c.args.factors.now c.loop-factor.factor-index c.loop-factor.invariant c.loop-factor-test.false)
