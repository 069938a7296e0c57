-- Stretches: a list of walks as stretches of ways that are neighbours in an index, each with its source and the place of
-- its first walk.
use Rattle.std.specs.Prelude.{ℕ, ◌+◌, ◌<◌, ◌≤◌, ◌≡◌, List, [], ◌∷◌, length, map, slice_index_or}
use Rattle.std.specs.List.{flat_map}
use Rattle.gq_index.specs.declared.stretches.Stretch.{Stretch}
use Rattle.gq_index.specs.declared.walks.Neighbor.{Neighbor}
use Rattle.gq_index.specs.declared.walks.Traversal.{Traversal}
use Rattle.gq_index.specs.Runs.{run_count}
use Rattle.gq_index.specs.Walks.{walked}

-- a stretch, by its number
abbrev pub stretch_at : List Stretch → ℕ → Stretch
stretch_at stretches k = slice_index_or stretches k (record { source = 0; start = 0; ways = record { ref_ptr = (0, 0); now = [] } })

-- a way, by its number
abbrev pub way_at : List Neighbor → ℕ → Neighbor
way_at ways k = slice_index_or ways k (record { kind = 0; row = 0; target = 0 })

-- the walks of a stretch
abbrev pub walks_in : Stretch → List Traversal
walks_in s = map (walked s.source) s.ways.now

-- the walks that stretches represent
abbrev pub walks_along : List Stretch → List Traversal
walks_along stretches = flat_map walks_in stretches

-- the place behind the last walk of a stretch
abbrev pub end_of : Stretch → ℕ
end_of s = s.start + length s.ways.now

-- no stretch is empty, and each begins where the one before it ends, the first at n
abbrev pub FollowFrom : ℕ → List Stretch → Type 0
FollowFrom n [] = Unit {0}
FollowFrom n (s ∷ rest) = (s.start ≡ n) × (0 < length s.ways.now) × FollowFrom (end_of s) rest

-- the stretches have this many walks, and there are no more of them than runs of walks with the same source and type
pub record AreStretches (stretches : List Stretch) (count : ℕ) : Type 0 where
  pub follow : FollowFrom 0 stretches
  pub counted : length (walks_along stretches) ≡ count
  pub few : length stretches ≤ run_count (walks_along stretches)
