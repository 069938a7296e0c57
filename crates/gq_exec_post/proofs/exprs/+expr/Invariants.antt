use Rattle.std.proofs.Common.{◌+◌, ◌*◌}
use Rattle.gq_exec_post.proofs.NamingLemmas.{AnyTo, PartsTo, FactorsTo, TermsTo}
use Rattle.gq_exec_post.proofs.exprs.+expr.Given as goal

abbrev pub invariant-any_names-loop-expr : goal.invariant-any_names-loop-expr
invariant-any_names-loop-expr l = AnyTo l.place l.exprs l.expr-index

abbrev pub invariant-parts_name-loop-part : goal.invariant-parts_name-loop-part
invariant-parts_name-loop-part l = PartsTo l.place l.parts l.part-index

abbrev pub invariant-factors_name-loop-factor : goal.invariant-factors_name-loop-factor
invariant-factors_name-loop-factor l = FactorsTo l.place l.factors l.factor-index

abbrev pub invariant-terms_name-loop-term : goal.invariant-terms_name-loop-term
invariant-terms_name-loop-term l = TermsTo l.place l.terms l.term-index

-- ---- measures of the recursion; a list has a greater one than each of its items

abbrev pub decreases-expr_names : goal.decreases-expr_names
decreases-expr_names l = 8 * goal.size-expr_names l

abbrev pub decreases-any_names : goal.decreases-any_names
decreases-any_names l = 8 * goal.size-any_names l + 1

abbrev pub decreases-parts_name : goal.decreases-parts_name
decreases-parts_name l = 8 * goal.size-parts_name l + 1

abbrev pub decreases-part_names : goal.decreases-part_names
decreases-part_names l = 8 * goal.size-part_names l

abbrev pub decreases-factors_name : goal.decreases-factors_name
decreases-factors_name l = 8 * goal.size-factors_name l + 1

abbrev pub decreases-terms_name : goal.decreases-terms_name
decreases-terms_name l = 8 * goal.size-terms_name l + 1
