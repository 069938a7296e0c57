-- Keeping: when a store fits a catalog, and when upserts keep it so. Its vertices have existing types, ids in stored
-- form, and their attributes; its edges have existing types, are named as these say, and lead from vertex to vertex.
use Rattle.std.specs.Prelude.{◌≡◌, ℕ, ◌<◌, true, List, [], ◌∷◌, length, Some, All}
use Rattle.gq_graph.specs.Catalog.{Schema}
use Rattle.gq_graph.specs.declared.rows.Naming.{Naming}
use Rattle.gq_graph.specs.declared.rows.VertexRow.{VertexRow}
use Rattle.gq_graph.specs.declared.rows.EdgeRow.{EdgeRow}
use Rattle.gq_graph.specs.Edges.{naming_of}
use Rattle.gq_index.specs.declared.store.Store.{Store}
use Rattle.gq_load_check.specs.Targets.{vertex_type_at, edge_type_at}
use Rattle.gq_index.specs.Namings.{AreNamedBy, naming_in}
use Rattle.gq_index.specs.Rows.{IsId}
use Rattle.gq_index.specs.Steps.{Step, Vertex, End, Edge, after, has_vertex}

-- a store without vertices and edges
abbrev pub no_rows : Store
no_rows = record { vertices = []; edges = record { rows = []; namings = [] } }

-- the types that have edges are below a number
abbrev pub AreWithin : ℕ → List Naming → Type 0
AreWithin n namings = (kind : ℕ) (known : Naming) → naming_of namings kind ≡ Some known → kind < n

-- a vertex has a type of the catalog, an id in the stored form of that type, and a value for each attribute
pub record IsVertexOf (schema : Schema) (row : VertexRow) : Type 0 where
  pub there : row.kind < length schema.vertex_types
  pub id : IsId (vertex_type_at schema row.kind).id.kind row.id
  pub values : length row.attributes ≡ length (vertex_type_at schema row.kind).attributes

-- both ends of an edge are among the first `count` vertices
pub record IsAmong (count : ℕ) (edge : EdgeRow) : Type 0 where
  pub from : edge.from < count
  pub to : edge.to < count

pub record StoreFits (schema : Schema) (store : Store) : Type 0 where
  pub named : AreNamedBy (edge_type_at schema) store.edges.namings
  pub within : AreWithin (length schema.edge_types) store.edges.namings
  pub vertices : All (IsVertexOf schema) store.vertices
  pub edges : All (IsAmong (length store.vertices)) store.edges.rows

-- ---- upserts

-- an upsert of a vertex has a type of the catalog; one of an edge does too, and names the edge as that type says
abbrev pub IsOfTypes : Schema → Step → Type 0
IsOfTypes schema (Vertex row) = IsVertexOf schema row
IsOfTypes schema (End row) = IsVertexOf schema row
IsOfTypes schema (Edge naming from to attributes) =
    (naming.kind < length schema.edge_types) × (naming ≡ naming_in (edge_type_at schema) naming.kind)

abbrev pub AllOfTypes : Schema → List Step → Type 0
AllOfTypes schema [] = Unit {0}
AllOfTypes schema (step ∷ steps) = IsOfTypes schema step × AllOfTypes schema steps

-- the ends of an edge exist when it is put
abbrev pub HasItsEnds : Store → Step → Type 0
HasItsEnds store (Vertex row) = Unit {0}
HasItsEnds store (End row) = Unit {0}
HasItsEnds store (Edge naming from to attributes) = (has_vertex store from ≡ true) × (has_vertex store to ≡ true)

-- the same for each edge of a list of upserts, at its step
abbrev pub EndsComeFirst : Store → List Step → Type 0
EndsComeFirst store [] = Unit {0}
EndsComeFirst store (step ∷ steps) = HasItsEnds store step × EndsComeFirst (after store step) steps

-- upserts of a catalog's types, each edge after its ends, whatever store they are put into
pub record UpsertsFit (schema : Schema) (steps : List Step) : Type 0 where
  pub types : AllOfTypes schema steps
  pub ends : (store : Store) → EndsComeFirst store steps
