-- Kept: an index that is kept while rows are appended, and how the catalog and the store may change meanwhile.
-- It covers the first types of the catalog, and the first vertices and edges of the store. A walk depends only on
-- numbers of types and vertices and on the ends of edges, never on attributes or on a vertex's type.
use Rattle.std.specs.Prelude.{◌≡◌, ℕ, ◌<◌, ◌≤◌, ◌++◌, true, List, length, map, take}
use Rattle.gq_graph.specs.declared.types.EdgeType.{EdgeType}
use Rattle.gq_graph.specs.declared.rows.EdgeRow.{EdgeRow}
use Rattle.gq_graph.specs.Catalog.{Schema}
use Rattle.gq_graph.specs.Edges.{edge_at}
use Rattle.gq_index.specs.declared.store.Store.{Store}
use Rattle.gq_index.specs.declared.kept.KeptIndex.{KeptIndex}
use Rattle.gq_index.specs.Places.{below}
use Rattle.gq_index.specs.Walks.{walks_from}

-- both ends of an edge are among the first `vertices` vertices
pub record EndsWithin (vertices : ℕ) (edge : EdgeRow) : Type 0 where
  pub from : edge.from < vertices
  pub to : edge.to < vertices

-- both ends of each of the first edges are among the first vertices
abbrev pub AllWithin : ℕ → ℕ → List EdgeRow → Type 0
AllWithin vertices first edges = (r : ℕ) → r < first → EndsWithin vertices (edge_at edges r)

-- the index has the walks from the first vertices along the first edges under the first types
pub record IsKept (kept : KeptIndex) (schema : Schema) (store : Store) : Type 0 where
  pub types : kept.types ≤ length schema.edge_types
  pub edges : kept.edges ≤ length store.edges.rows
  pub vertices : length kept.index ≤ length store.vertices
  pub walks : kept.index ≡ map (walks_from (take kept.types schema.edge_types) (take kept.edges store.edges.rows)) (below (length kept.index))
  pub whole : kept.whole ≡ true → AllWithin (length kept.index) kept.edges store.edges.rows

-- both rows of an edge have the same type and ends
pub record SameWay (old new : EdgeRow) : Type 0 where
  pub kind : new.kind ≡ old.kind
  pub from : new.from ≡ old.from
  pub to : new.to ≡ old.to

-- edge types were appended
pub record CatalogGrown (old new : Schema) : Type 0 where
  pub more : List EdgeType
  pub types : new.edge_types ≡ old.edge_types ++ more

-- vertices and edges were appended, and no edge has other ends than before
pub record StoreGrown (old new : Store) : Type 0 where
  pub vertices : length old.vertices ≤ length new.vertices
  pub edges : length old.edges.rows ≤ length new.edges.rows
  pub same : (r : ℕ) → r < length old.edges.rows → SameWay (edge_at old.edges.rows r) (edge_at new.edges.rows r)
