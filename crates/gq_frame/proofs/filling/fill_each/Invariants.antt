use Rattle.gq_frame.specs.Pages.{Fills}
use Rattle.gq_frame.proofs.filling.fill_each.Given as goal

-- as many contents as iterations
abbrev pub invariant-loop-copy : goal.invariant-loop-copy
invariant-loop-copy l = Fills l.content l._copy l.fn.contents l.contents
