use Rattle.std.proofs.Common.{◌≡◌, ◌+◌, ◌*◌, drop, map, Some}
use Rattle.gq_value.specs.Views.{val}
use Rattle.gq_plan_ir.specs.ExprView.{views, view_parts, view_factors, view_terms}
use Rattle.gq_rules_meaning.specs.Expressions.{arguments, meaning_parts, meaning_factors, meaning_terms, meaning_all, meaning_any}
use Rattle.gq_eval_operand.specs.Meant.{meant}
use Rattle.gq_eval_operand.specs.Sound.{Sound}
use Rattle.gq_eval_builtins.specs.Wants.{wants_are}
use Rattle.gq_eval_builtins.specs.Steps.{true_meant}
use Rattle.gq_eval_builtins.proofs.RunLemmas.{after}
use Rattle.gq_eval_builtins.proofs.MisfitLemmas.{SpoiledAt}
use Rattle.gq_eval.proofs.expressions.+eval.Given as goal

abbrev pub invariant-run_factors-loop-factor : goal.invariant-run_factors-loop-factor
invariant-run_factors-loop-factor g l =
    (meaning_factors (g.V.Sees.look l.sight) (meant l.fn.first) (view_factors l.factors) ≡ meaning_factors (g.V.Sees.look l.sight) (meant l.x) (view_factors (drop l.factor-index l.factors))) × (Sound l.fn.first → Sound l.x)

abbrev pub invariant-run_terms-loop-term : goal.invariant-run_terms-loop-term
invariant-run_terms-loop-term g l =
    (meaning_terms (g.V.Sees.look l.sight) (meant l.fn.first) (view_terms l.terms) ≡ meaning_terms (g.V.Sees.look l.sight) (meant l.x) (view_terms (drop l.term-index l.terms))) × (Sound l.fn.first → Sound l.x)

abbrev pub invariant-run_parts-loop-part : goal.invariant-run_parts-loop-part
invariant-run_parts-loop-part g l =
    (meaning_parts (g.V.Sees.look l.sight) (meant l.fn.first) (view_parts l.parts) ≡ meaning_parts (g.V.Sees.look l.sight) (meant l.x) (view_parts (drop l.part-index l.parts))) × Sound l.x

abbrev pub invariant-run_all-loop-other : goal.invariant-run_all-loop-other
invariant-run_all-loop-other g l =
    meaning_all (g.V.Sees.look l.sight) (true_meant l.fn.first) (views l.others) ≡ meaning_all (g.V.Sees.look l.sight) (true_meant l.holds) (views (drop l.other-index l.others))

abbrev pub invariant-run_any-loop-other : goal.invariant-run_any-loop-other
invariant-run_any-loop-other g l =
    meaning_any (g.V.Sees.look l.sight) (true_meant l.fn.first) (views l.others) ≡ meaning_any (g.V.Sees.look l.sight) (true_meant l.holds) (views (drop l.other-index l.others))

abbrev pub invariant-run_row-loop-place : goal.invariant-run_row-loop-place
invariant-run_row-loop-place g l =
    arguments (g.V.Sees.look l.sight) (map Some (wants_are l.wants)) (views l.exprs) ≡ after (g.V.Sees.look l.sight) (map val l.row) (arguments (g.V.Sees.look l.sight) (map Some (drop l.place (wants_are l.wants))) (views (drop l.place l.exprs)))

abbrev pub invariant-misfit-loop-place : goal.invariant-misfit-loop-place
invariant-misfit-loop-place g l = SpoiledAt (g.V.Sees.look l.sight) l.wants l.arguments l.place

-- ---- the remaining depth; a function that passes on its own argument counts for more

abbrev pub decreases-run : goal.decreases-run
decreases-run g l = 8 * goal.size-run g l + 1

abbrev pub decreases-operated : goal.decreases-operated
decreases-operated g l = 8 * goal.size-operated g l + 0

abbrev pub decreases-run_value : goal.decreases-run_value
decreases-run_value g l = 8 * goal.size-run_value g l + 2

abbrev pub decreases-run_truth : goal.decreases-run_truth
decreases-run_truth g l = 8 * goal.size-run_truth g l + 3

abbrev pub decreases-run_int : goal.decreases-run_int
decreases-run_int g l = 8 * goal.size-run_int g l + 3

abbrev pub decreases-run_factors : goal.decreases-run_factors
decreases-run_factors g l = 8 * goal.size-run_factors g l + 4

abbrev pub decreases-times : goal.decreases-times
decreases-times g l = 8 * goal.size-times g l + 3

abbrev pub decreases-run_terms : goal.decreases-run_terms
decreases-run_terms g l = 8 * goal.size-run_terms g l + 4

abbrev pub decreases-plus : goal.decreases-plus
decreases-plus g l = 8 * goal.size-plus g l + 3

abbrev pub decreases-run_all : goal.decreases-run_all
decreases-run_all g l = 8 * goal.size-run_all g l + 4

abbrev pub decreases-run_any : goal.decreases-run_any
decreases-run_any g l = 8 * goal.size-run_any g l + 4

abbrev pub decreases-run_parts : goal.decreases-run_parts
decreases-run_parts g l = 8 * goal.size-run_parts g l + 2

abbrev pub decreases-run_part : goal.decreases-run_part
decreases-run_part g l = 8 * goal.size-run_part g l + 1

abbrev pub decreases-run_row : goal.decreases-run_row
decreases-run_row g l = 8 * goal.size-run_row g l + 3

abbrev pub decreases-misfit : goal.decreases-misfit
decreases-misfit g l = 8 * goal.size-misfit g l + 4

abbrev pub decreases-misfit_later : goal.decreases-misfit_later
decreases-misfit_later g l = 8 * goal.size-misfit_later g l + 5

abbrev pub decreases-run_wanted : goal.decreases-run_wanted
decreases-run_wanted g l = 8 * goal.size-run_wanted g l + 3

abbrev pub decreases-called : goal.decreases-called
decreases-called g l = 8 * goal.size-called g l + 7

abbrev pub decreases-made : goal.decreases-made
decreases-made g l = 8 * goal.size-made g l + 4

abbrev pub decreases-single : goal.decreases-single
decreases-single g l = 8 * goal.size-single g l + 5

abbrev pub decreases-difference : goal.decreases-difference
decreases-difference g l = 8 * goal.size-difference g l + 5

abbrev pub decreases-later : goal.decreases-later
decreases-later g l = 8 * goal.size-later g l + 6

abbrev pub decreases-method_called : goal.decreases-method_called
decreases-method_called g l = 8 * goal.size-method_called g l + 6

abbrev pub decreases-containing : goal.decreases-containing
decreases-containing g l = 8 * goal.size-containing g l + 5

abbrev pub decreases-containing_key : goal.decreases-containing_key
decreases-containing_key g l = 8 * goal.size-containing_key g l + 4

abbrev pub decreases-gotten : goal.decreases-gotten
decreases-gotten g l = 8 * goal.size-gotten g l + 4
