use Rattle.std.proofs.Common.{List, ℕ, ◌++◌, ◌∷◌, [], ap, sym, ◌∙◌, arith}
use Rattle.gq_json.specs.declared.out.Out.{Out}
use Rattle.gq_json.specs.Json.{listed, member_text, out_text, with_text}
use Rattle.gq_json.proofs.ListedLemmas.{one_more, one_member, closed, map-map}
use Rattle.gq_json.proofs.value.+values.Goals as goal

pub push_values-loop-i-preserved : goal.push_values-loop-i-preserved
push_values-loop-i-preserved t c = one_more out_text _ c.loop-i.i _ _ _ _ _ (omega arith) c.index-values-i.is c.loop-i.invariant c.in_ok-push_comma.ensures c.in_ok-push_value.ensures

pub push_members-loop-i-preserved : goal.push_members-loop-i-preserved
push_members-loop-i-preserved t c =
    let text = λ (m : List ℕ × Out). member_text (with_text m) in
    let member = c.index-members-i.result in
    one_more text _ c.loop-i.i _ _ _ _ _ (omega arith) c.index-members-i.is c.loop-i.invariant c.in_ok-push_comma.ensures (one_member member.0 (out_text member.1) _ _ _ c.in_ok-push_name.ensures c.in_ok-push_value.ensures)

pub push_members-returns : goal.push_members-returns
push_members-returns t c =
    let text = λ (m : List ℕ × Out). member_text (with_text m) in
    let all = c.args.members.now in
    closed text all c.loop-i.i c.args.line.now.items (123 ∷ []) (125 ∷ []) _ _ (omega arith) c.loop-i.invariant c.in_ok-push-2.ensures.items
    ∙ ap (λ texts. c.args.line.now.items ++ (123 ∷ listed texts ++ 125 ∷ [])) (sym (map-map member_text with_text all))
