use Rattle.std.proofs.Common.{◌≡◌, take}
use Rattle.gq_base.specs.Hash as spec
use Rattle.gq_base.proofs.hash.text_hash.Given as goal

abbrev pub invariant-loop-byte : goal.invariant-loop-byte
invariant-loop-byte l = l.mix ≡ spec.hash_from l.hash (take l.byte-index l.byte-items)
