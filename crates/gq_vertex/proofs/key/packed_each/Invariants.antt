use Rattle.std.proofs.Common.{◌≡◌, ◌<◌, take}
use Rattle.gq_vertex.specs.Keyed as spec
use Rattle.gq_vertex.proofs.key.packed_each.Given as goal

abbrev pub invariant-loop-byte : goal.invariant-loop-byte
invariant-loop-byte l = (l.word ≡ spec.packed (take l.byte-index l.id)) × (l.word < 72057594037927936)
