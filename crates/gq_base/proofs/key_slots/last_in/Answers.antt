use Rattle.std.proofs.Common.{length, get_or, subst, arith}
use Rattle.gq_base.specs.Keys.{number_of, numbers_of, links_of}
use Rattle.gq_base.specs.KeySlots.{IsLatest}
use Rattle.gq_base.proofs.KeyChainLemmas.{link_at, no_entry}
use Rattle.gq_base.proofs.KeySlotLemmas.{end_is, end_none, last_of}
use Rattle.gq_base.proofs.key_slots.last_in.Goals as goal

pub returns-in-Some : goal.returns-in-Some
returns-in-Some c =
    let slots = c.args.slots.now in let keys = numbers_of c.args.entries.now in let n = length c.args.entries.now in let key = number_of c.args.key in
    let latest = end_is n (length slots) keys (numbers_of slots) (links_of slots) key c.in-Some.place c.requires.held c.in-Some.ensures in
    last_of keys key n (get_or slots c.in-Some.place no_entry).before c.row_at.result c.row_at.ensures
    (subst (λ x. IsLatest keys key n x) (link_at slots c.in-Some.place no_entry c.in-Some.ensures.within) latest)

pub returns-in-None : goal.returns-in-None
returns-in-None c =
    let slots = c.args.slots.now in
    λ k low. (end_none (length c.args.entries.now) (length slots) (numbers_of c.args.entries.now) (numbers_of slots) (links_of slots) (number_of c.args.key) c.requires.held c.in-None.ensures).past k (omega arith) low
