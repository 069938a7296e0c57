use Rattle.std.proofs.Common.{take}
use Rattle.gq_frame.specs.Targets.{ShowTheSame}
use Rattle.gq_frame.proofs.page.copied.Given as goal

-- as many contents as were gone over are copied
abbrev pub invariant-loop-content : goal.invariant-loop-content
invariant-loop-content l = ShowTheSame (take l.content-index l.contents) l.copy
