use Rattle.std.proofs.Common.{take}
use Rattle.gq_frame.specs.Pages.{AllFit}
use Rattle.gq_frame.proofs.page.all_fit.Given as goal

-- the contents that were gone over fit
abbrev pub invariant-loop-content : goal.invariant-loop-content
invariant-loop-content l = AllFit (take l.content-index l.contents)
