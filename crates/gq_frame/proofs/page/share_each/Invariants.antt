use Rattle.std.proofs.Common.{take}
use Rattle.gq_frame.specs.Pages.{SharesContents}
use Rattle.gq_frame.proofs.page.share_each.Given as goal

-- the contents that were gone over are copied
abbrev pub invariant-loop-single : goal.invariant-loop-single
invariant-loop-single l = SharesContents (take l.single-index l.singles) l.copy
