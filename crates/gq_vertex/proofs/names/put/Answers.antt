use Rattle.std.proofs.Common.{rules}
use Rattle.gq_vertex.proofs.SortedLemmas.{put_there, put_first, on_ok}
use Rattle.gq_vertex.proofs.names.put.Goals as goal

pub returns-in-Some-clause-put : goal.returns-in-Some-clause-put
returns-in-Some-clause-put c = on_ok c.put_entry.result c.put_entry.ensures.put
    (put_there c.args.names.now (c.get_mut.follows.lender c.put_entry.new.entries) c.args.kind c.args.id.now c.in_ok-id.id c.args.number c.in-Some.ids.now c.put_entry.new.entries c.in_ok-id.ensures.ok
    c.in-Some.ensures.value ((c.get_mut.follows.holds c.put_entry.new.entries).3 (search rules)))

pub returns-in_ok-put_entry-in-None-clause-put : goal.returns-in_ok-put_entry-in-None-clause-put
returns-in_ok-put_entry-in-None-clause-put c =
    on_ok c.put_entry-in-None-2.result (rw c.get_mut.follows.holds-at-none at c.put_entry-in-None-2.ensures.put) (λ u.
    put_first c.args.names.now c.put_entry-in-None-2.new.entries c.args.kind c.args.id.now c.in_ok-id.id c.args.number c.new-ids.result c.put_entry-in-None.new.entries
    c.in_ok-id.ensures.ok c.in-None.ensures.value c.new-ids.ensures.empty u c.in_ok-put_entry-in-None.ensures.put)
