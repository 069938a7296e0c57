use Rattle.std.proofs.Common.{rules}
use Rattle.std.specs.Map.Iter.{deref_pair}
use Rattle.std.proofs.lemmas.Map.Iter.{rest_more, rest_all}
use Rattle.gq_nest.proofs.LevelLemmas.{opened-Map, opened-Group}
use Rattle.gq_nest.proofs.TellSteps.{tells_scalar}
use Rattle.gq_nest.proofs.FitSteps.{fitting_more, all_fitting, one_unfit, groups_fitting_more, all_groups_fit, one_group_unfit}
use Rattle.gq_nest.proofs.PartSteps.{fitting_each_more, fitting_each_all, one_part_unfit, left_more, left_none}
use Rattle.gq_nest.proofs.fitting.+fits.Goals as goal

pub fits-returns-in-Scalar : goal.fits-returns-in-Scalar
fits-returns-in-Scalar t c = tells_scalar _ _ _ _ c.in-Scalar.is c.fits.ensures

pub fits-loop-part-preserved : goal.fits-loop-part-preserved
fits-loop-part-preserved t c = fitting_more _ _ _ _ _ (rest_more deref_pair _ _ _ _ c.in-Some.is c.next.ensures.steps) (rw c.if-not-fits.false at c.fits-in-loop-part.ensures) c.loop-part.invariant

pub fits-returns-then-not-fits : goal.fits-returns-then-not-fits
fits-returns-then-not-fits t c = one_unfit _ _ _ c.in-Map.is c.into_iter-part-iterator.ensures.into_iter_gives.1 _ _ _ _ (rest_more deref_pair _ _ _ _ c.in-Some.is c.next.ensures.steps) (rw c.if-not-fits.true at c.fits-in-loop-part.ensures) (rw (c.in-Map.is, opened-Map c.in-Map.field-0 c.in-Map.entries) at c.loop-part.invariant)

pub fits-returns-in-None : goal.fits-returns-in-None
fits-returns-in-None t c = all_fitting _ _ _ c.in-Map.is c.into_iter-part-iterator.ensures.into_iter_gives.1 _ (rest_all deref_pair _ _ _ c.in-None.is c.next.ensures.steps) (rw (c.in-Map.is, opened-Map c.in-Map.field-0 c.in-Map.entries) at c.loop-part.invariant)

pub fits-returns-then-not-all_fit : goal.fits-returns-then-not-all_fit
fits-returns-then-not-all_fit t c = one_group_unfit _ _ _ c.in-Group.is c.into_iter-parts-iterator.ensures.into_iter_gives.1 _ _ _ _ _ (rest_more deref_pair _ _ _ _ c.in-Some-2.is c.next-in-loop-parts.ensures.steps) c.as_slice.ensures (rw c.if-not-all_fit.true at c.all_fit.ensures) (rw (c.in-Group.is, opened-Group c.in-Group.field-0 c.in-Group.groups) at c.loop-parts.invariant)

pub fits-loop-parts-preserved : goal.fits-loop-parts-preserved
fits-loop-parts-preserved t c = groups_fitting_more _ _ _ _ _ _ (rest_more deref_pair _ _ _ _ c.in-Some-2.is c.next-in-loop-parts.ensures.steps) c.as_slice.ensures (rw c.if-not-all_fit.false at c.all_fit.ensures) c.loop-parts.invariant

pub fits-returns-in-None-2 : goal.fits-returns-in-None-2
fits-returns-in-None-2 t c = all_groups_fit _ _ _ c.in-Group.is c.into_iter-parts-iterator.ensures.into_iter_gives.1 _ (rest_all deref_pair _ _ _ c.in-None-2.is c.next-in-loop-parts.ensures.steps) (rw (c.in-Group.is, opened-Group c.in-Group.field-0 c.in-Group.groups) at c.loop-parts.invariant)

pub all_fit-returns-then-not-fits : goal.all_fit-returns-then-not-fits
all_fit-returns-then-not-fits t c = one_part_unfit _ _ _ _ (left_more c.args.parts.now c.loop-part.part-index _ (search rules) c.part-item.is) (rw c.if-not-fits.true at c.fits.ensures) c.loop-part.invariant

pub all_fit-loop-part-preserved : goal.all_fit-loop-part-preserved
all_fit-loop-part-preserved t c = fitting_each_more _ _ _ _ (left_more c.args.parts.now c.loop-part.part-index _ (search rules) c.part-item.is) (rw c.if-not-fits.false at c.fits.ensures) c.loop-part.invariant

pub all_fit-returns : goal.all_fit-returns
all_fit-returns t c = fitting_each_all _ _ (left_none c.args.parts.now c.loop-part.part-index (search rules)) c.loop-part.invariant
