use Rattle.std.proofs.Common.{◌≡◌, take}
use Rattle.gq_value.proofs.kind_copies.duplicate_keys.Given as goal

-- the keys visited so far are copied
abbrev pub invariant-loop-name : goal.invariant-loop-name
invariant-loop-name l = l.copy ≡ take l.name-index l.keys
