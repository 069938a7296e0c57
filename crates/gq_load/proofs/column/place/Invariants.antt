use Rattle.std.proofs.Common.{◌≡◌, drop}
use Rattle.std.specs.Prelude.{bytes_eq}
use Rattle.std.specs.List.{position_from}
use Rattle.gq_load.proofs.column.place.Given as goal

abbrev pub invariant-loop-n : goal.invariant-loop-n
invariant-loop-n l = position_from (bytes_eq l.name) 0 l.header ≡ position_from (bytes_eq l.name) l.n (drop l.n l.header)
