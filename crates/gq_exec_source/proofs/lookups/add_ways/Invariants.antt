use Rattle.std.proofs.Common.{◌≡◌, ◌++◌, take}
use Rattle.gq_index.specs.Sights.{vertex_kinds}
use Rattle.gq_exec_source.specs.Indexed.{went_on}
use Rattle.gq_exec_source.proofs.lookups.add_ways.Given as goal

abbrev pub invariant-loop-way : goal.invariant-loop-way
invariant-loop-way l = l.walks.items ≡ l.fn.walks.items ++ went_on (vertex_kinds l.graph.store.now.vertices) l.step.step.now.targets l.rest l.kind l.walk (take l.way-index l.ways)
