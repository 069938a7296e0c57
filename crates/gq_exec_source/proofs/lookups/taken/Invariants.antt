use Rattle.std.proofs.Common.{◌≡◌, take}
use Rattle.gq_index.specs.Sights.{vertex_kinds}
use Rattle.gq_exec_source.proofs.LookupLemmas.{gone}
use Rattle.gq_exec_source.proofs.lookups.taken.Given as goal

abbrev pub invariant-loop-entry : goal.invariant-loop-entry
invariant-loop-entry l =
    l.walks.items ≡ gone (vertex_kinds l.graph.store.now.vertices) l.step.step.now.targets l.rest l.graph.catalog.now.edge_types l.graph.store.now.edges.rows l.walk (take l.entry-index l.step.entries.items)
