-- Found: ends of edges that were looked up ahead. No clause of another crate cites this.
use Rattle.std.specs.Prelude.{◌≡◌, ◌<◌, ◌+◌, ◌*◌, ℕ, List, length, slice_get, slice_index_or, Option, Some, None}
use Rattle.gq_graph.specs.Catalog.{Schema}
use Rattle.gq_graph.specs.declared.rows.VertexRow.{VertexRow}
use Rattle.gq_graph.specs.Vertices.{vertex_number}
use Rattle.gq_load_check.specs.declared.job.Target.{Target}
use Rattle.gq_load_check.specs.declared.job.Target.TheVariants as target
use Rattle.gq_load_check.specs.Targets.{edge_type_at}
use Rattle.gq_load.specs.declared.ahead.FoundEnds.{FoundEnds}
use Rattle.gq_load.specs.declared.draft.Draft.{Draft}
use Rattle.gq_load.specs.declared.record.ReadRecord.{ReadRecord}
use Rattle.gq_load.specs.declared.route.Route.{Route}

-- nothing was found
abbrev pub no_ends : FoundEnds
no_ends = record { from = None; to = None }

-- the number of an end, if it has one, is that of its vertex
abbrev pub IsNumber : List VertexRow → ℕ → List ℕ → Option ℕ → Type 0
IsNumber vertices kind id number = (n : ℕ) → number ≡ Some n → vertex_number vertices kind id ≡ Some n

-- the same for both ends of an edge's draft
pub record EndsAreFound (vertices : List VertexRow) (from_kind to_kind : ℕ) (draft : Draft) (ends : FoundEnds) : Type 0 where
  pub from : IsNumber vertices from_kind draft.from ends.from
  pub to : IsNumber vertices to_kind draft.to ends.to

-- the same along a route; a vertex type has no ends
abbrev pub IsFound : Schema → List VertexRow → Target → Draft → FoundEnds → Type 0
IsFound schema vertices (target.Vertex n) draft ends = Unit {0}
IsFound schema vertices (target.Edge n) draft ends = EndsAreFound vertices (edge_type_at schema n).from (edge_type_at schema n).to draft ends

-- the ends of a record along all routes, stored after those of the earlier records of a batch of 256
abbrev pub AreFoundFor : Schema → List Route → List Draft → ℕ → List VertexRow → List FoundEnds → Type 0
AreFoundFor schema routes drafts k vertices found =
    (i : ℕ) (route : Route) (draft : Draft) → slice_get routes i ≡ Some route → slice_get drafts i ≡ Some draft
    → IsFound schema vertices route.target draft (slice_index_or found (i * 256 + k) no_ends)

-- the same for all records
abbrev pub AreFound : Schema → List Route → List ReadRecord → List VertexRow → List FoundEnds → Type 0
AreFound schema routes batch vertices found =
    (k : ℕ) (r : ReadRecord) → slice_get batch k ≡ Some r → AreFoundFor schema routes r.drafts.items k vertices found

-- the entries listed before stay unchanged
abbrev pub KeepsThose : List FoundEnds → List FoundEnds → Type 0
KeepsThose old new = (i : ℕ) → i < length old → slice_index_or new i no_ends ≡ slice_index_or old i no_ends

-- the first has each number that the second has
pub record TellsOf (other ends : FoundEnds) : Type 0 where
  pub from : (n : ℕ) → ends.from ≡ Some n → other.from ≡ Some n
  pub to : (n : ℕ) → ends.to ≡ Some n → other.to ≡ Some n
