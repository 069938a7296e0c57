use Rattle.std.proofs.Common.{◌≡◌, ◌∷◌, [], ◌++◌, map, take}
use Rattle.gq_json.specs.Json.{listed, member_text, out_text, with_text}
use Rattle.gq_json.proofs.value.+values.Given as goal

abbrev pub invariant-push_values-loop-i : goal.invariant-push_values-loop-i
invariant-push_values-loop-i l = l.line.items ≡ (l.fn.line.items ++ 91 ∷ []) ++ listed (map out_text (take l.i l.values))

abbrev pub invariant-push_members-loop-i : goal.invariant-push_members-loop-i
invariant-push_members-loop-i l = l.line.items ≡ (l.fn.line.items ++ 123 ∷ []) ++ listed (map (λ m. member_text (with_text m)) (take l.i l.members))
