use Rattle.std.proofs.Common.{take}
use Rattle.gq_nest.specs.Entries.{every}
use Rattle.gq_frame.specs.Pages.{AllFit, ArePages, items_of}
use Rattle.gq_frame.proofs.pages.all_fit.Given as goal

-- the contents of the pages that were gone over fit
abbrev pub invariant-loop-page : goal.invariant-loop-page
invariant-loop-page l = ArePages l.pages → every (λ p. AllFit (items_of p)) (take l.page-index l.pages)
