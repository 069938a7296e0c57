use Rattle.std.proofs.Common.{◌≡◌, ◌∙◌, ◌+◌, ◌-◌, ◌<◌, Some, ap, length, get_or, refl, sym, subst, vec_len, arith}
use Rattle.std.specs.List.{slice_get}
use Rattle.std.proofs.lemmas.Option.{slice_get-get_or}
use Rattle.gq_base.specs.Keys.{number_of, numbers_of, links_of}
use Rattle.gq_base.specs.KeySlots.{IsEnd, IsPassed}
use Rattle.gq_base.proofs.KeyChainLemmas.{no_entry}
use Rattle.gq_base.proofs.KeySlotLemmas.{table_less, row_there}
use Rattle.gq_base.proofs.key_slots.drop_last.Goals as goal

pub returns-in-Some-seek-clause-table : goal.returns-in-Some-seek-clause-table
returns-in-Some-seek-clause-table c =
    let slots = c.args.slots.now in let entries = c.args.entries.now.items in let n = vec_len c.args.entries.now - 1 in let e = c.in-Some.entry in
    let p = c.in-Some-seek.place in let slot = get_or slots p no_entry in
    let some : 0 < vec_len c.args.entries.now = omega (arith, c.pop.ensures.cases, c.in-Some.ensures.cases) in
    let long : length entries ≡ n + 1 = omega (arith, c.args.entries.now.ok.0) in
    let is : slice_get entries n ≡ Some e = slice_get-get_or entries n no_entry (omega (arith, long)) ∙ sym (c.pop.ensures.value no_entry some) ∙ c.in-Some.is in
    let end = subst (λ k. IsEnd (length slots) k p (numbers_of slots) (links_of slots)) (ap number_of c.key_of.ensures) c.in-Some-seek.ensures in
    rw c.pop.ensures.rest (table_less slots entries n p e (record { word = slot.word; tag = slot.tag; before = e.before }) long is c.requires.table end refl refl)

pub returns-in-None-clause-table : goal.returns-in-None-clause-table
returns-in-None-clause-table c =
    let slots = c.args.slots.now in let entries = c.args.entries.now.items in let n = vec_len c.args.entries.now - 1 in let e = c.in-Some.entry in
    let some : 0 < vec_len c.args.entries.now = omega (arith, c.pop.ensures.cases, c.in-Some.ensures.cases) in
    let long : length entries ≡ n + 1 = omega (arith, c.args.entries.now.ok.0) in
    let is : slice_get entries n ≡ Some e = slice_get-get_or entries n no_entry (omega (arith, long)) ∙ sym (c.pop.ensures.value no_entry some) ∙ c.in-Some.is in
    absurd (row_there slots entries n e long is c.requires.table
    (subst (λ k. IsPassed (length slots) k (length slots) (numbers_of slots) (links_of slots)) (ap number_of c.key_of.ensures) c.in-None.ensures))
