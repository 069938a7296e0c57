-- Ranges: the walks from the vertices of one range, so that several workers can each fill the lists of one.
-- The lists of a range are numbered from its first vertex, and so are the sources of the walks that are put in them.
use Rattle.std.specs.Prelude.{ℕ, ◌+◌, ◌-◌, ◌<◌, ◌≡◌, nat_le, filter, List, length, map}
use Rattle.gq_graph.specs.declared.types.EdgeType.{EdgeType}
use Rattle.gq_graph.specs.declared.rows.EdgeRow.{EdgeRow}
use Rattle.gq_index.specs.declared.ranges.RangeLists.{RangeLists}
use Rattle.gq_index.specs.declared.walks.Traversal.{Traversal}
use Rattle.gq_index.specs.declared.walks.Neighbor.{Neighbor}
use Rattle.gq_index.specs.Lists.{lists_of}
use Rattle.gq_index.specs.Walks.{AreListed, walked, walks_from, ways_at}

-- a walk, its source counted from the vertex `first`
abbrev pub counted_from : ℕ → Traversal → Traversal
counted_from first walk = record { source = walk.source - first; kind = walk.kind; row = walk.row; target = walk.target }

-- the walks from the vertex `first` and later ones, their sources counted from it
unfoldable pub lowered : ℕ → List Traversal → List Traversal
lowered first walks = map (counted_from first) (filter (λ (walk : Traversal). nat_le first walk.source) walks)

-- the n lists of a range hold the walks from its vertices, of which `first` is the first one
pub record AreRanged (first n count : ℕ) (range : RangeLists) (walks : List Traversal) : Type 0 where
  pub first_is : range.first ≡ first
  pub lists : AreListed n count (lists_of range.lists) (lowered first walks)

-- each list holds the walks from its vertex along all edges; the vertices are counted from `first`
abbrev pub HoldWalks : List EdgeType → List EdgeRow → ℕ → List (List Neighbor) → Type 0
HoldWalks types edges first lists =
    (v : ℕ) → v < length lists → map (walked (first + v)) (ways_at lists v) ≡ walks_from types edges (first + v)
