use Rattle.std.proofs.Common.{◌++◌, List, take, filter, map}
use Rattle.gq_index.specs.declared.walks.Traversal.{Traversal}
use Rattle.gq_index.specs.Runs.{Holds}
use Rattle.gq_index.specs.Segments.{is_wanted}
use Rattle.gq_index.specs.Sights.{vertex_kinds}
use Rattle.gq_index.specs.Walks.{walked}
use Rattle.gq_index.proofs.candidates.add_wanted.Given as goal

abbrev pub invariant-loop-way : goal.invariant-loop-way
invariant-loop-way l = (before : List Traversal) → Holds l.fn.segments.items l.fn.reached.items before
    → Holds l.segments.items l.reached.items
    (before ++ filter (is_wanted l.wanted.edges (vertex_kinds l.vertices) l.wanted.targets) (map (walked l.source) (take l.way-index l.ways)))
