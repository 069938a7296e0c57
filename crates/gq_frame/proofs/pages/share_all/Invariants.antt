use Rattle.std.proofs.Common.{take}
use Rattle.gq_frame.specs.Pages.{ShareEach}
use Rattle.gq_frame.proofs.pages.share_all.Given as goal

-- the pages that were gone over are copied
abbrev pub invariant-loop-page : goal.invariant-loop-page
invariant-loop-page l = ShareEach (take l.page-index l.pages) l.copy
