use Rattle.std.proofs.Common.{take, true}
use Rattle.gq_accum_laws.specs.Fits.{fits}
use Rattle.gq_nest.specs.Entries.{every}
use Rattle.gq_nest.specs.Tells.{Tells}
use Rattle.gq_frame.specs.Pages.{AreHeld, content_of}
use Rattle.gq_frame.proofs.page.each_fits.Given as goal

-- the contents that were gone over fit
abbrev pub invariant-loop-single : goal.invariant-loop-single
invariant-loop-single l = AreHeld l.singles → every (λ s. Tells (content_of s) true fits) (take l.single-index l.singles)
