use Rattle.std.proofs.Common.{◌≡◌, ◌++◌, map}
use Rattle.gq_value.specs.Views.{val}
use Rattle.gq_nest.specs.Entries.{group_row, rows}
use Rattle.gq_nest.proofs.rows.group_rows.Given as goal

-- the copies, and the key rows that are still to come
abbrev pub invariant-loop-row : goal.invariant-loop-row
invariant-loop-row l = map (map val) l.all ++ rows group_row l.row-iterator ≡ rows group_row l.groups.entries
