use Rattle.std.proofs.Common.{◌≡◌, ◌∷◌, ◌++◌, take}
use Rattle.std.specs.List.{flat_map}
use Rattle.gq_json.specs.Json.{escaped}
use Rattle.gq_json.proofs.text.push_quoted.Given as goal

abbrev pub invariant-loop-byte : goal.invariant-loop-byte
invariant-loop-byte l = l.line.items ≡ l.fn.line.items ++ 34 ∷ flat_map escaped (take l.byte-index l.byte-items)
