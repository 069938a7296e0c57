use Rattle.std.proofs.Common.{◌≡◌, take, fold}
use Rattle.gq_edge.specs.Hashed as spec
use Rattle.gq_edge.proofs.hash.text_mixed.Given as goal

abbrev pub invariant-loop-byte : goal.invariant-loop-byte
invariant-loop-byte l = l.mix ≡ fold spec.mixed l.hash (take l.byte-index l.text)
