use Rattle.gq_frame.specs.Pages.{SealEach}
use Rattle.gq_frame.proofs.pages.seal_all.Given as goal

-- the pages before this one are sealed, the others are as they were
abbrev pub invariant-loop-at : goal.invariant-loop-at
invariant-loop-at l = SealEach l.initial.pages l.pages
