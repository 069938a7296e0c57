use Rattle.std.proofs.Common.{◌≡◌, ◌++◌, map, take, codes}
use Rattle.gq_json.specs.Json.{listed, printed_text}
use Rattle.gq_json.proofs.line.json_line.Given as goal

abbrev pub invariant-loop-i : goal.invariant-loop-i
invariant-loop-i l = l.line.items ≡ codes "{\"error\":false,\"message\":\"\",\"results\":[" ++ listed (map (λ p. printed_text p.members) (take l.i l.printed))
