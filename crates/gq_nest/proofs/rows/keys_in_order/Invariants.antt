use Rattle.std.proofs.Common.{◌≡◌, ◌++◌, map}
use Rattle.gq_value.specs.Views.{val}
use Rattle.gq_nest.proofs.rows.keys_in_order.Given as goal

-- the copies, and the keys that are still to come
abbrev pub invariant-loop-key : goal.invariant-loop-key
invariant-loop-key l = map val l.row ++ map val l.key-iterator ≡ map val l.keys.keys
