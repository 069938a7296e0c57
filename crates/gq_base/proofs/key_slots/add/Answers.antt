use Rattle.std.proofs.Common.{◌≡◌, ◌∙◌, ◌+◌, length, sym, ap}
use Rattle.gq_base.specs.Keys.{number_of, number_in}
use Rattle.gq_base.specs.declared.key_chains.Entry.{Entry}
use Rattle.gq_base.proofs.KeyChainLemmas.{link_at, no_entry}
use Rattle.gq_base.proofs.KeySlotLemmas.{table_more}
use Rattle.gq_base.proofs.key_slots.add.Goals as goal

pub returns-in-Some-clause-table : goal.returns-in-Some-clause-table
returns-in-Some-clause-table c =
    let slots = c.args.slots.now in let entries = c.args.entries.now.items in let place = c.in-Some.place in
    let row : c.entry_of-in-Some.result.before ≡ length entries + 1 =
    ap (λ (e : Entry). e.before) c.entry_of-in-Some.ensures ∙ ap (λ n. n + 1) (c.len-number.ensures ∙ c.args.entries.now.ok.0) in
    rw c.put.ensures (table_more slots entries place c.entry_of.result c.entry_of-in-Some.result (number_of c.args.key) c.requires.table c.in-Some.ensures
    (ap number_in c.entry_of.ensures) (ap (λ (e : Entry). e.before) c.entry_of.ensures ∙ sym (link_at slots place no_entry c.in-Some.ensures.within))
    (ap number_in c.entry_of-in-Some.ensures) row)
