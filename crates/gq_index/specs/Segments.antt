-- Segments: how many segments a list of candidates has, and what the code keeps of candidates.
-- A segment is one source with one edge type and at least one candidate.
use Rattle.std.specs.Prelude.{ℕ, ◌-◌, ◌<◌, ◌≡◌, Bool, true, false, ◌&&◌, ◌||◌, not, ◌==◌, List, length, map, Option, Some, slice_index_or}
use Rattle.std.specs.Option.{is_some}
use Rattle.gq_graph.specs.declared.rows.Candidate.{Candidate}
use Rattle.gq_graph.specs.Candidates.{alone, among, is_target}
use Rattle.gq_index.specs.declared.candidates.CandidateRows.{CandidateRows}
use Rattle.gq_index.specs.declared.candidates.CandidateRows.TheVariants.{Vertices, Edges, InPlace}
use Rattle.gq_index.specs.declared.walks.Neighbor.{Neighbor}
use Rattle.gq_index.specs.declared.walks.Traversal.{Traversal}
use Rattle.gq_index.specs.Places.{many}

-- a candidate along an edge
abbrev pub of_walk : Traversal → Candidate
of_walk walk = record { source = walk.source; edge = Some walk.row; kind = Some walk.kind; target = Some walk.target }

-- the candidates that the kept rows represent
abbrev pub listed : CandidateRows → List Candidate
listed (Vertices vertices) = map alone vertices.items
listed (Edges walks) = map of_walk walks
listed (InPlace walks) = map of_walk walks

-- a candidate, by its place
abbrev pub candidate_at : List Candidate → ℕ → Candidate
candidate_at cs i = slice_index_or cs i (alone 0)

-- whether both have the same type
abbrev pub same_kind : Option ℕ → Option ℕ → Bool
same_kind (Some a) (Some b) = a == b
same_kind _ _ = false

-- whether a candidate along an edge opens a segment after this candidate
abbrev pub opens_beside : ℕ → Candidate → Candidate → Bool
opens_beside i c before = is_some c.kind && ((i == 0) || not ((c.source == before.source) && same_kind c.kind before.kind))

-- whether a segment starts at a place
abbrev pub opens_segment : List Candidate → ℕ → Bool
opens_segment cs i = opens_beside i (candidate_at cs i) (candidate_at cs (i - 1))

-- how many segments there are
unfoldable pub segment_count : List Candidate → ℕ
segment_count cs = many (opens_segment cs) (length cs)

-- whether a way has a listed type and leads to a vertex of a listed type
abbrev pub leads : List ℕ → List ℕ → List ℕ → Neighbor → Bool
leads edges kinds targets way = among edges way.kind && is_target kinds targets way.target

-- whether a walk has a listed type and leads to a vertex of a listed type
abbrev pub is_wanted : List ℕ → List ℕ → List ℕ → Traversal → Bool
is_wanted edges kinds targets walk = among edges walk.kind && is_target kinds targets walk.target

-- if all vertices are said to be targets, each of them is one
abbrev pub AreAll : List ℕ → List ℕ → Bool → Type 0
AreAll kinds targets all = all ≡ true → (v : ℕ) → v < length kinds → is_target kinds targets v ≡ true
