use Rattle.std.proofs.Common.{codes, ◌∷◌, []}
use Rattle.gq_json.specs.Json.{error_text, quoted}
use Rattle.gq_json.proofs.ListedLemmas.{three_parts}
use Rattle.gq_json.proofs.line.error_line.Goals as goal

pub returns : goal.returns
unfolding error_text
returns c = three_parts (codes "{\"error\":true,\"message\":") (quoted c.args.message.now) (125 ∷ 10 ∷ []) _ _ _ c.in_ok-line.ensures.items c.in_ok-push_quoted.ensures c.in_ok-extend_from_slice.ensures.items
