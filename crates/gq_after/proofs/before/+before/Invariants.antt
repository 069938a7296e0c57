use Rattle.std.proofs.Common.{◌+◌, ◌*◌}
use Rattle.gq_after.proofs.BeforeLemmas.{AnyTo, PartsTo, FactorsTo, TermsTo}
use Rattle.gq_after.proofs.before.+before.Given as goal

abbrev pub invariant-any_has-loop-expr : goal.invariant-any_has-loop-expr
invariant-any_has-loop-expr l = AnyTo l.exprs l.expr-index

abbrev pub invariant-parts_have-loop-part : goal.invariant-parts_have-loop-part
invariant-parts_have-loop-part l = PartsTo l.parts l.part-index

abbrev pub invariant-factors_have-loop-factor : goal.invariant-factors_have-loop-factor
invariant-factors_have-loop-factor l = FactorsTo l.factors l.factor-index

abbrev pub invariant-terms_have-loop-term : goal.invariant-terms_have-loop-term
invariant-terms_have-loop-term l = TermsTo l.terms l.term-index

-- ---- measures of the recursion; a list has a greater one than each of its items

abbrev pub decreases-has_before : goal.decreases-has_before
decreases-has_before l = 8 * goal.size-has_before l

abbrev pub decreases-any_has : goal.decreases-any_has
decreases-any_has l = 8 * goal.size-any_has l + 1

abbrev pub decreases-parts_have : goal.decreases-parts_have
decreases-parts_have l = 8 * goal.size-parts_have l + 1

abbrev pub decreases-part_has : goal.decreases-part_has
decreases-part_has l = 8 * goal.size-part_has l

abbrev pub decreases-factors_have : goal.decreases-factors_have
decreases-factors_have l = 8 * goal.size-factors_have l + 1

abbrev pub decreases-terms_have : goal.decreases-terms_have
decreases-terms_have l = 8 * goal.size-terms_have l + 1
