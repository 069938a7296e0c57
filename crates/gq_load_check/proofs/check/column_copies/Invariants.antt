use Rattle.std.proofs.Common.{◌≡◌, take}
use Rattle.gq_load_check.proofs.check.column_copies.Given as goal

abbrev pub invariant-loop-column : goal.invariant-loop-column
invariant-loop-column l = l.copies ≡ take l.column-index l.columns
