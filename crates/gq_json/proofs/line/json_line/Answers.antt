use Rattle.std.proofs.Common.{◌++◌, ◌∷◌, [], ap, sym, ◌∙◌, arith, codes}
use Rattle.gq_json.specs.Json.{listed, printed_text, line_text}
use Rattle.gq_json.specs.declared.out.Printed.{Printed}
use Rattle.gq_json.proofs.ListedLemmas.{one_more, closed, map-map}
use Rattle.gq_json.proofs.line.json_line.Goals as goal

pub loop-i-preserved : goal.loop-i-preserved
loop-i-preserved c =
    let head = codes "{\"error\":false,\"message\":\"\",\"results\":[" in
    let text = λ (p : Printed). printed_text p.members in
    let wrote = c.in_ok-push_members.ensures ∙ ap (λ ms. c.push_comma.new.line.items ++ printed_text ms) c.as_slice.ensures in
    one_more text _ c.loop-i.i _ head _ _ _ (omega arith) c.index-printed-i.is c.loop-i.invariant c.in_ok-push_comma.ensures wrote

pub returns : goal.returns
unfolding line_text
returns c =
    let head = codes "{\"error\":false,\"message\":\"\",\"results\":[" in
    let text = λ (p : Printed). printed_text p.members in
    let all = c.args.printed.now in
    closed text all c.loop-i.i [] head (93 ∷ 125 ∷ 10 ∷ []) _ _ (omega arith) c.loop-i.invariant c.in_ok-extend_from_slice.ensures.items
    ∙ ap (λ texts. head ++ (listed texts ++ 93 ∷ 125 ∷ 10 ∷ [])) (sym (map-map printed_text (λ (p : Printed). p.members) all))
