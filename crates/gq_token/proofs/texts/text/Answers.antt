use Rattle.std.proofs.Common.{◌≡◌, ◌∙◌, ◌+◌, Some, ap, sym, refl, subst, take, drop}
use Rattle.std.specs.Str.{IsUtf8}
use Rattle.std.proofs.lemmas.List.{take_rest}
use Rattle.gq_token.specs.Texts.{closes, said}
use Rattle.gq_token.specs.Items.{EndsAt, BodyFault}
use Rattle.gq_token.proofs.TextLemmas.{text_item, text_fault}
use Rattle.gq_token.proofs.Utf8Lemmas.{body_utf8}
use Rattle.gq_token.proofs.texts.text.Goals as goal

pub resolved-requires-clause-utf8 : goal.resolved-requires-clause-utf8
resolved-requires-clause-utf8 c =
    let rest = c.args.rest.now in
    let ends : EndsAt closes (drop 1 rest) c.in-Some.size = subst (λ l. EndsAt closes l c.in-Some.size) (take_rest rest 1) c.in-Some.ensures.some in
    subst (λ l. IsUtf8 (take c.in-Some.size l)) (sym (take_rest rest 1)) (body_utf8 rest c.in-Some.size c.requires.some c.requires.utf8 c.requires.quote ends)

pub returns-in-Ok-clause-item : goal.returns-in-Ok-clause-item
returns-in-Ok-clause-item c =
    let rest = c.args.rest.now in
    let ends : EndsAt closes (drop 1 rest) c.in-Some.size = subst (λ l. EndsAt closes l c.in-Some.size) (take_rest rest 1) c.in-Some.ensures.some in
    let says : said (take c.in-Some.size (drop 1 rest)) ≡ Some c.in-Ok.text = ap (λ l. said (take c.in-Some.size l)) (sym (take_rest rest 1))
    ∙ c.in-Ok.ensures.text in
    text_item rest c.in-Some.size _ c.in-Ok.text c.requires.some c.requires.quote ends refl says

pub returns-in-Err-clause-fault : goal.returns-in-Err-clause-fault
returns-in-Err-clause-fault c =
    let rest = c.args.rest.now in
    let ends : EndsAt closes (drop 1 rest) c.in-Some.size = subst (λ l. EndsAt closes l c.in-Some.size) (take_rest rest 1) c.in-Some.ensures.some in
    text_fault rest c.in-Some.size c.args.at c.in-Err.fault c.requires.some c.requires.quote ends
    (subst (λ l. BodyFault (take c.in-Some.size l) (c.args.at + 1) c.in-Err.fault) (take_rest rest 1) c.in-Err.ensures.fault)
