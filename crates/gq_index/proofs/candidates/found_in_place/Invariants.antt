use Rattle.std.proofs.Common.{ℕ, ◌-◌, ◌<◌, ◌≤◌, ◌≡◌, length, take, filter, slice_index_or}
use Rattle.std.specs.List.{flat_map}
use Rattle.gq_index.specs.Segments.{is_wanted}
use Rattle.gq_index.specs.Sights.{vertex_kinds}
use Rattle.gq_index.specs.Walks.{walk_at, walks_at}
use Rattle.gq_index.proofs.candidates.found_in_place.Given as goal

abbrev pub invariant-loop-source : goal.invariant-loop-source
invariant-loop-source l = record {
  all : l.walks ≡ flat_map (λ v. filter (is_wanted l.wanted.edges (vertex_kinds l.vertices) l.wanted.targets) (walks_at l.index v)) (take l.source-index l.sources);
  later : (j : ℕ) → l.source-index ≤ j → j < length l.sources → 0 < length l.walks → (walk_at l.walks (length l.walks - 1)).source < slice_index_or l.sources j 0;
}
