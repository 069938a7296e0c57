use Rattle.std.proofs.Common.{take, filter}
use Rattle.std.specs.List.{flat_map}
use Rattle.gq_index.specs.Runs.{Holds}
use Rattle.gq_index.specs.Segments.{is_wanted}
use Rattle.gq_index.specs.Sights.{vertex_kinds}
use Rattle.gq_index.specs.Walks.{walks_at}
use Rattle.gq_index.proofs.candidates.gather.Given as goal

abbrev pub invariant-loop-source : goal.invariant-loop-source
invariant-loop-source l = Holds l.segments.items l.reached.items
    (flat_map (λ v. filter (is_wanted l.wanted.edges (vertex_kinds l.vertices) l.wanted.targets) (walks_at l.index v)) (take l.source-index l.sources))
