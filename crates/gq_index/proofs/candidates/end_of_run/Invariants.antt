use Rattle.std.proofs.Common.{ℕ, ◌-◌, ◌<◌, ◌≤◌, ◌≡◌, length}
use Rattle.gq_index.specs.Segments.{leads}
use Rattle.gq_index.specs.Sights.{vertex_kinds}
use Rattle.gq_index.specs.Stretches.{way_at}
use Rattle.gq_index.proofs.candidates.end_of_run.Given as goal

abbrev pub invariant-loop-end : goal.invariant-loop-end
invariant-loop-end l = record {
  order : l.from ≤ l.end;
  within : l.end ≤ length l.ways;
  run : (k : ℕ) → l.from ≤ k → k < l.end → leads l.wanted.edges (vertex_kinds l.vertices) l.wanted.targets (way_at l.ways k) ≡ l.are_wanted;
}

abbrev pub decreases-loop-end : goal.decreases-loop-end
decreases-loop-end l = length l.ways - l.end
