use Rattle.std.proofs.Common.{rules, map, ap, ◌∙◌, sym, subst, List}
use Rattle.gq_value.specs.declared.kind.Input.{Input}
use Rattle.gq_value.specs.AccumViews.{given, givens}
use Rattle.gq_value.proofs.AccumLemmas.{given-One, given-Keyed}
use Rattle.gq_nest.specs.Tells.{Tells}
use Rattle.gq_exec_post.specs.Judging.{fits_where, given_at}
use Rattle.gq_exec_post.proofs.JudgingSteps.{tells_one, tells_scalar, lacks_where, has_where, group_lacks, group_has, no_input, judged_more, judged_not, judged_all}
use Rattle.gq_exec_post.proofs.judging.+judging.Goals as goal

pub still_fits-returns-in-One : goal.still_fits-returns-in-One
still_fits-returns-in-One t c = tells_one _ _ _ _ (ap given c.in-One.is ∙ given-One _) c.fits.ensures

pub still_fits-returns-in-None : goal.still_fits-returns-in-None
still_fits-returns-in-None t c = lacks_where _ _ _ c.in-Map.is _ _ _ (ap given c.in-Keyed.is ∙ given-Keyed _ _) c.in-None.ensures

pub still_fits-returns-in-Some : goal.still_fits-returns-in-Some
still_fits-returns-in-Some t c = has_where _ _ _ c.in-Map.is _ _ _ (ap given c.in-Keyed.is ∙ given-Keyed _ _) _ _ c.in-Some.ensures
    (subst (λ (ys : List Input). Tells c.in-Some.part.now c.part_fits.result (λ k h. fits_where k h (given_at ys 0))) c.as_slice.ensures c.part_fits.ensures)

pub still_fits-returns-in-None-get : goal.still_fits-returns-in-None-get
still_fits-returns-in-None-get t c = group_lacks _ _ _ c.in-Group.is _ _ c.as_slice-in-Group.ensures _ _ (ap given c.in-Keyed.is ∙ given-Keyed _ _) c.in-None-get.ensures.value

pub still_fits-returns-in-Some-get : goal.still_fits-returns-in-Some-get
still_fits-returns-in-Some-get t c = group_has _ _ _ c.in-Group.is _ _ c.as_slice-in-Group.ensures _ _ (ap given c.in-Keyed.is ∙ given-Keyed _ _) _ c.in-Some-get.ensures.value
    (map given c.as_slice-in-Some-get.result.now) (ap (λ (ys : List Input). givens (map given ys)) (sym c.as_slice-in-Some-get.ensures)) _ c.as_slice-in-Some-get-2.ensures _ c.parts_fit.ensures

pub still_fits-returns-in-Scalar : goal.still_fits-returns-in-Scalar
still_fits-returns-in-Scalar t c = tells_scalar _ _ _ c.fits-in-Scalar.ensures _ c.in-Scalar.is

pub part_fits-returns-in-None : goal.part_fits-returns-in-None
part_fits-returns-in-None t c = no_input _ _ _ _ c.in-None.ensures.lookup c.fits.ensures

pub parts_fit-returns-then-not-part_fits : goal.parts_fit-returns-then-not-part_fits
parts_fit-returns-then-not-part_fits t c = judged_not _ _ _ _ c.loop-place-test.true c.index-parts-place.is c.loop-place.invariant (rw c.if-not-part_fits.true at c.part_fits.ensures)

pub parts_fit-loop-place-preserved : goal.parts_fit-loop-place-preserved
parts_fit-loop-place-preserved t c = judged_more _ _ _ _ c.loop-place-test.true c.index-parts-place.is c.loop-place.invariant (rw c.if-not-part_fits.false at c.part_fits.ensures)

pub parts_fit-returns : goal.parts_fit-returns
parts_fit-returns t c = judged_all _ _ _ (search rules) c.loop-place.invariant
