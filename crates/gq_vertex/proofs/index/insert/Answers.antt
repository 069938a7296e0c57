use Rattle.std.proofs.Common.{length, refl}
use Rattle.gq_vertex.proofs.SortedLemmas.{sorted_push, on_ok}
use Rattle.gq_vertex.proofs.index.insert.Goals as goal

pub returns-in-Sorted-clause-put : goal.returns-in-Sorted-clause-put
returns-in-Sorted-clause-put c = on_ok c.put.result (rw (c.kind-in-Sorted.ensures, c.id-in-Sorted.ensures) at c.put.ensures.put)
    (sorted_push c.args.rows.now c.args.row.now (length c.args.rows.now) c.in-Sorted.names c.put.new.names c.requires.new refl
    (rw c.in-Sorted.is at c.change_if_crowded.ensures))
