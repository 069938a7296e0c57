use Rattle.std.proofs.Common.{take}
use Rattle.gq_workers.specs.Rounds.{AllFit}
use Rattle.gq_workers.proofs.joining.all_fit.Given as goal

abbrev pub invariant-loop-part : goal.invariant-loop-part
invariant-loop-part l = AllFit (take l.part-index l.parts) l.found
