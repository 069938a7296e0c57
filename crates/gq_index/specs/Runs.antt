-- Runs: a list of walks as segments, each with its first place, and the edge and far end at each place.
use Rattle.std.specs.Prelude.{ℕ, ◌-◌, ◌<◌, ◌≤◌, ◌≡◌, Bool, ◌&&◌, ◌||◌, not, ◌==◌, nat_le, List, length, map, slice_index_or, count_by}
use Rattle.gq_index.specs.declared.runs.Reached.{Reached}
use Rattle.gq_index.specs.declared.runs.Segment.{Segment}
use Rattle.gq_index.specs.declared.walks.Traversal.{Traversal}
use Rattle.gq_index.specs.Places.{below, many}
use Rattle.gq_index.specs.Walks.{walk_at}

-- a segment, by its number
abbrev pub segment_at : List Segment → ℕ → Segment
segment_at segments k = slice_index_or segments k (record { source = 0; kind = 0; start = 0 })

-- the edge and far end at a place
abbrev pub reached_at : List Reached → ℕ → Reached
reached_at reached i = slice_index_or reached i (record { row = 0; target = 0 })

-- the walk that a segment and the edge and far end at a place show
abbrev pub walk_of : Segment → Reached → Traversal
walk_of s r = record { source = s.source; kind = s.kind; row = r.row; target = r.target }

-- the segment of a place: the last one that starts at or before it
abbrev pub segment_of : List Segment → ℕ → Segment
segment_of segments i = segment_at segments (count_by (λ s. nat_le s.start i) segments - 1)

-- the walks that segments and places show
unfoldable pub shown : List Segment → List Reached → List Traversal
shown segments reached = map (λ i. walk_of (segment_of segments i) (reached_at reached i)) (below (length reached))

-- later segments don't start earlier
abbrev pub IsRising : List Segment → Type 0
IsRising segments = (a b : ℕ) → a ≤ b → b < length segments → (segment_at segments a).start ≤ (segment_at segments b).start

-- whether a walk has another source or type than the one before it
abbrev pub opens : List Traversal → ℕ → Bool
opens walks i =
    (i == 0) || not (((walk_at walks i).source == (walk_at walks (i - 1)).source) && ((walk_at walks i).kind == (walk_at walks (i - 1)).kind))

-- how many runs of walks with the same source and type there are
unfoldable pub run_count : List Traversal → ℕ
run_count walks = many (opens walks) (length walks)

-- segments and places show the walks, with one segment for each run
pub record Holds (segments : List Segment) (reached : List Reached) (walks : List Traversal) : Type 0 where
  pub shows : shown segments reached ≡ walks
  pub rising : IsRising segments
  pub within : (k : ℕ) → k < length segments → (segment_at segments k).start < length reached
  pub opening : 0 < length segments → (segment_at segments 0).start ≡ 0
  pub begun : 0 < length reached → 0 < length segments
  pub runs : length segments ≡ run_count walks
