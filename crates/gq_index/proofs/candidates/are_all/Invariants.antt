use Rattle.std.proofs.Common.{ℕ, ◌<◌, ◌≡◌, true}
use Rattle.gq_graph.specs.Candidates.{is_target}
use Rattle.gq_index.specs.Sights.{vertex_kinds}
use Rattle.gq_index.proofs.candidates.are_all.Given as goal

abbrev pub invariant-loop-vertex : goal.invariant-loop-vertex
invariant-loop-vertex l = (v : ℕ) → v < l.vertex → is_target (vertex_kinds l.vertices) l.targets v ≡ true
