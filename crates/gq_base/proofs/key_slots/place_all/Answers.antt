use Rattle.std.proofs.Common.{◌<◌, ◌+◌, length, get_or, sym, ap, ◌∙◌, refl, subst, arith}
use Rattle.gq_base.specs.Keys.{number_of, numbers_of, links_of}
use Rattle.gq_base.specs.KeySlots.{IsEnd}
use Rattle.gq_base.proofs.KeyChainLemmas.{number_at, no_entry}
use Rattle.gq_base.proofs.KeySlotLemmas.{put_row}
use Rattle.gq_base.proofs.key_slots.place_all.Goals as goal

pub loop-i-preserved : goal.loop-i-preserved
loop-i-preserved c =
    let slots = c.loop-i.slots in let entries = c.args.entries.now in let i = c.loop-i.i in let old = get_or entries i no_entry in
    let under : i < length entries = omega (arith, c.loop-i-test.true, c.loop-i.auto.i-end) in
    let number = number_at entries i no_entry under in
    put_row slots i (numbers_of entries) c.in-Some.place (record { word = old.word; tag = old.tag; before = i + 1 }) c.loop-i.invariant
    (subst (λ k. IsEnd (length slots) k c.in-Some.place (numbers_of slots) (links_of slots)) (ap number_of c.key_of.ensures ∙ sym number) c.in-Some.ensures)
    (sym number) refl
