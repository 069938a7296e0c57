-- Each result concerns the item that the iteration found, after what is cut already.
use Rattle.std.proofs.Common.{◌≡◌, All, ◌+◌, ◌++◌, [], ◌∷◌, ◌∙◌, ap, sym, subst, arith}
use Rattle.std.proofs.lemmas.List.{append-nil}
use Rattle.std.proofs.lemmas.List.Elements.{All-push}
use Rattle.gq_token.specs.declared.token.Token.{Token}
use Rattle.gq_token.specs.Spelling.{Gap, TokenOf}
use Rattle.gq_token.specs.Cut.{IsSpelledIn}
use Rattle.gq_token.specs.Items.{IsItem}
use Rattle.gq_token.proofs.CutLemmas.{tokens_unique, cut_whole}
use Rattle.gq_token.proofs.LawLemmas.{one_fault_at_most, no_fault_beside}
use Rattle.gq_token.proofs.PlaceLemmas.{place_within}
use Rattle.gq_token.proofs.StepLemmas.{remains, remains_utf8, step_within, step_spelled, step_cut, step_fault, step_apart}
use Rattle.gq_token.proofs.cut.tokens.Goals as goal

pub next_item-requires-clause-utf8 : goal.next_item-requires-clause-utf8
next_item-requires-clause-utf8 c = remains_utf8 c.args.bytes.now c.loop-at.at c.in_default.ensures.cases.1 c.loop-at-test.true

pub returns-in-Err-next_item-clause-no_cut : goal.returns-in-Err-next_item-clause-no_cut
returns-in-Err-next_item-clause-no_cut c =
    step_apart c.args.bytes.now c.loop-at.at c.loop-at.found.items c.loop-at.invariant.before c.in-Err-next_item.fault c.in_default.ensures.cases.1
    c.loop-at-test.true c.in-Err-next_item.ensures.fault

pub loop-at-preserved-in_ok-push-in-Some : goal.loop-at-preserved-in_ok-push-in-Some
loop-at-preserved-in_ok-push-in-Some c =
    let bytes = c.args.bytes.now in
    let found = c.loop-at.found.items in
    let token : Token = record { shape = c.in-Some.shape; from = c.loop-at.at; to = c.loop-at.at + c.in-Ok.item.size } in
    let item : IsItem (remains bytes c.loop-at.at) c.in-Ok.item.size (TokenOf c.in-Some.shape) = rw c.in-Some.is at c.in-Ok.ensures.item in
    let pushed : c.push.new.self.items ≡ found ++ token ∷ [] =
    c.in_ok-push-in-Some.ensures.items
    ∙ ap (λ s. found ++ record { shape = s; from = c.loop-at.at; to = c.loop-at.at + c.in-Ok.item.size } ∷ []) c.in-Some.shape-is in
    let spells : IsSpelledIn bytes token = step_spelled bytes c.loop-at.at c.in-Ok.item.size c.in-Some.shape c.loop-at.invariant.within item in
    record {
      within = step_within bytes c.loop-at.at c.in-Ok.item.size (TokenOf c.in-Some.shape) c.loop-at.invariant.within item;
      before = step_cut bytes c.loop-at.at found c.loop-at.invariant.before c.in-Ok.item.size (TokenOf c.in-Some.shape) c.push.new.self.items item pushed;
      spelled = subst (All (IsSpelledIn bytes)) (sym pushed) (All-push (IsSpelledIn bytes) found token c.loop-at.invariant.spelled spells);
    }

pub loop-at-preserved : goal.loop-at-preserved
loop-at-preserved c =
    let bytes = c.args.bytes.now in
    let item : IsItem (remains bytes c.loop-at.at) c.in-Ok.item.size Gap = rw c.in-None.is at c.in-Ok.ensures.item in
    record {
      within = step_within bytes c.loop-at.at c.in-Ok.item.size Gap c.loop-at.invariant.within item;
      before =
          step_cut bytes c.loop-at.at c.loop-at.found.items c.loop-at.invariant.before c.in-Ok.item.size Gap c.loop-at.found.items item (sym (append-nil c.loop-at.found.items));
      spelled = c.loop-at.invariant.spelled;
    }

pub returns-clause-only : goal.returns-clause-only
returns-clause-only c = λ tokens has.
    let is_whole = cut_whole c.args.bytes.now c.loop-at.at c.loop-at.found.items c.in_default.ensures.cases.1 c.loop-at.invariant.before (omega arith) in
    tokens_unique c.args.bytes.now tokens c.loop-at.found.items has is_whole

pub returns-in-Err-next_item-clause-fault : goal.returns-in-Err-next_item-clause-fault
returns-in-Err-next_item-clause-fault c =
    step_fault c.args.bytes.now c.loop-at.at c.loop-at.found.items c.loop-at.invariant.before c.in-Err-next_item.fault c.in_default.ensures.cases.1
    c.loop-at-test.true c.in-Err-next_item.ensures.fault

pub returns-in-Err-next_item-clause-only_fault : goal.returns-in-Err-next_item-clause-only_fault
returns-in-Err-next_item-clause-only_fault c = λ not_memory other has.
    let fault =
    step_fault c.args.bytes.now c.loop-at.at c.loop-at.found.items c.loop-at.invariant.before c.in-Err-next_item.fault c.in_default.ensures.cases.1
    c.loop-at-test.true c.in-Err-next_item.ensures.fault not_memory in
    one_fault_at_most c.args.bytes.now other c.in-Err-next_item.fault has fault

pub returns-in-Err-next_item-clause-within : goal.returns-in-Err-next_item-clause-within
returns-in-Err-next_item-clause-within c =
    place_within c.args.bytes.now c.in-Err-next_item.fault
    (step_fault c.args.bytes.now c.loop-at.at c.loop-at.found.items c.loop-at.invariant.before c.in-Err-next_item.fault c.in_default.ensures.cases.1
    c.loop-at-test.true c.in-Err-next_item.ensures.fault)

pub returns-clause-no_fault : goal.returns-clause-no_fault
returns-clause-no_fault c = λ fault has.
    let is_whole = cut_whole c.args.bytes.now c.loop-at.at c.loop-at.found.items c.in_default.ensures.cases.1 c.loop-at.invariant.before (omega arith) in
    no_fault_beside c.args.bytes.now fault c.loop-at.found.items has is_whole
