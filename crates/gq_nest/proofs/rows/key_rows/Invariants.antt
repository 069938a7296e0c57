use Rattle.std.proofs.Common.{◌≡◌, ◌++◌, map}
use Rattle.gq_value.specs.Views.{val}
use Rattle.gq_nest.specs.Entries.{key_row, rows}
use Rattle.gq_nest.proofs.rows.key_rows.Given as goal

-- the copies, and the keys that are still to come
abbrev pub invariant-loop-key : goal.invariant-loop-key
invariant-loop-key l = map (map val) l.all ++ rows key_row l.key-iterator ≡ rows key_row l.entries.entries
