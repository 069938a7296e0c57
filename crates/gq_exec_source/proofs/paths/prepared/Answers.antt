use Rattle.std.proofs.Common.{◌+◌, length}
use Rattle.gq_index.proofs.KeptLemmas.{are_ends}
use Rattle.gq_exec_source.proofs.RowLemmas.{placed_rows}
use Rattle.gq_exec_source.proofs.paths.prepared.Goals as goal

pub hops_of-requires : goal.hops_of-requires
hops_of-requires c =
    let store = c.args.graph.now.store.now in let n = length c.args.graph.now.catalog.now.edge_types in let ends = c.ends.result.now in
    let have = are_ends ends store.edges.rows c.ends.ensures.long c.ends.ensures.kinds c.ends.ensures.froms c.ends.ensures.tos in
    record {
      placed = rw (c.deref.ensures.value, c.deref-2.ensures.value)
          (placed_rows n (n + 1) ends store.edges.rows c.in_ok-starts.starts.items c.in_ok-starts.order.items have (rw c.edge_types.ensures.types at c.in_ok-starts.ensures));
    }
