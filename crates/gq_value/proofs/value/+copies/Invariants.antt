use Rattle.std.proofs.Common.{◌≡◌, take}
use Rattle.gq_value.proofs.value.+copies.Given as goal

-- the values visited so far are copied
abbrev pub invariant-duplicate_row-loop-value : goal.invariant-duplicate_row-loop-value
invariant-duplicate_row-loop-value l = l.copy ≡ take l.value-index l.row
