use Rattle.std.proofs.Common.{◌+◌, ◌*◌, drop}
use Rattle.gq_nest.specs.declared.content.Content.{size-Content, out-Content}
use Rattle.gq_nest.specs.Forms.{entries_in, groups_in}
use Rattle.gq_nest.proofs.FitSteps.{Fitting, FittingGroups}
use Rattle.gq_nest.proofs.PartSteps.{FittingEach}
use Rattle.gq_nest.proofs.fitting.+fits.Given as goal

abbrev pub decreases-fits : goal.decreases-fits
decreases-fits l = 2 * size-Content l.content.now

abbrev pub decreases-all_fit : goal.decreases-all_fit
decreases-all_fit l = 2 * goal.size-all_fit l + 1

abbrev pub invariant-fits-loop-part : goal.invariant-fits-loop-part
invariant-fits-loop-part l = Fitting (entries_in (out-Content l.content)) l.part-iterator

abbrev pub invariant-fits-loop-parts : goal.invariant-fits-loop-parts
invariant-fits-loop-parts l = FittingGroups (groups_in (out-Content l.content)) l.parts-iterator

abbrev pub invariant-all_fit-loop-part : goal.invariant-all_fit-loop-part
invariant-all_fit-loop-part l = FittingEach l.parts (drop l.part-index l.parts)
