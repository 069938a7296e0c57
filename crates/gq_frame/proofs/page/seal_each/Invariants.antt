use Rattle.gq_frame.specs.Pages.{SealsContents}
use Rattle.gq_frame.proofs.page.seal_each.Given as goal

-- the contents before this one are sealed, the others are as they were
abbrev pub invariant-loop-at : goal.invariant-loop-at
invariant-loop-at l = SealsContents l.initial.singles l.singles
