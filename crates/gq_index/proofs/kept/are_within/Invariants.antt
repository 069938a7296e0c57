use Rattle.gq_index.specs.Kept.{AllWithin}
use Rattle.gq_index.proofs.kept.are_within.Given as goal

abbrev pub invariant-loop-row : goal.invariant-loop-row
invariant-loop-row l = AllWithin l.vertices l.row l.edges
