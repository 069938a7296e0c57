use Rattle.std.proofs.Common.{◌≡◌, ◌<◌, ◌^◌, take}
use Rattle.gq_time.specs.Texts.{digits}
use Rattle.gq_time.proofs.numbers.number.Given as goal

abbrev pub invariant-loop-byte : goal.invariant-loop-byte
invariant-loop-byte l = (take l.byte-index l.text ≡ digits l.byte-index l.number) × (l.number < 10 ^ l.byte-index)
