use Rattle.std.proofs.Common.{◌<◌, length, get_or, sym, ap, ◌∙◌, arith}
use Rattle.gq_base.specs.Keys.{number_of, numbers_of, links_of}
use Rattle.gq_base.proofs.KeyChainLemmas.{number_at, link_at, no_entry}
use Rattle.gq_base.proofs.KeySlotLemmas.{passed_more}
use Rattle.gq_base.proofs.key_slots.seek.Goals as goal

pub loop-place-preserved : goal.loop-place-preserved
loop-place-preserved c =
    let slots = c.args.slots.now in let place = c.loop-place.place in
    let under : place < length slots = omega (arith, c.loop-place-test.true, c.loop-place.auto.place-end) in
    let number = number_at slots place no_entry under in let link = link_at slots place no_entry under in
    let taken : 0 < get_or (links_of slots) place 0 = omega (arith, link, c.if-slot-eq0.false) in
    passed_more (length slots) (number_of c.args.key) place (numbers_of slots) (links_of slots) c.loop-place.invariant taken
    (λ at. let same = c.if-is_same.ensures.1 (ap number_of c.key_of.ensures ∙ sym number ∙ at) in absurd (cc))
