use Rattle.std.proofs.Common.{◌+◌, ◌*◌}
use Rattle.gq_rules_calendar.specs.Gregorian.{gregorian}
use Rattle.gq_exec_contribute.specs.Prepared.{sees_in}
use Rattle.gq_exec_contribute.proofs.ArithmeticLemmas.{FactorsTo, TermsTo}
use Rattle.gq_exec_contribute.proofs.arithmetic.+read.Given as goal

abbrev pub invariant-sum_from-loop-term : goal.invariant-sum_from-loop-term
invariant-sum_from-loop-term l = TermsTo (sees_in gregorian l.over l.leaves l.accums l.c) l.fn.first l.terms l.term-index l.x

abbrev pub invariant-product_from-loop-factor : goal.invariant-product_from-loop-factor
invariant-product_from-loop-factor l = FactorsTo (sees_in gregorian l.over l.leaves l.accums l.c) l.fn.first l.factors l.factor-index l.x

-- ---- measures of the recursion

abbrev pub decreases-read_int : goal.decreases-read_int
decreases-read_int l = 8 * goal.size-read_int l + 1

abbrev pub decreases-sum_from : goal.decreases-sum_from
decreases-sum_from l = 8 * goal.size-sum_from l + 4

abbrev pub decreases-product_from : goal.decreases-product_from
decreases-product_from l = 8 * goal.size-product_from l + 4
