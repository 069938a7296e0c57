-- Stores: when a catalog's graphs and pairs of types are whole, and when a store's rows are of its types.
use Rattle.std.specs.Prelude.{◌≡◌, ℕ, ◌<◌, true, false, ◌&&◌, List, length, nat_lt, All, Option, Some, is_some}
use Rattle.std.specs.List.{list_all}
use Rattle.std.specs.Option.{ForSome}
use Rattle.gq_graph.specs.Catalog.{Schema, vertex_type_of, edge_type_of}
use Rattle.gq_graph.specs.Candidates.{among}
use Rattle.gq_graph.specs.declared.types.GraphType.{GraphType}
use Rattle.gq_graph.specs.declared.rows.VertexRow.{VertexRow}
use Rattle.gq_graph.specs.declared.rows.EdgeRow.{EdgeRow}
use Rattle.gq_load_check.specs.Targets.{vertex_type_at, edge_type_at}
use Rattle.gq_insert.specs.Fits.{row_fits}
use Rattle.gq_rules_meaning.specs.Calendars.{Calendar, IsCalendar, StaysInRange}
use Rattle.gq_rules_safety.specs.Safety.{IsStoreOf}

-- ---- catalogs

-- a graph's types are types of the catalog, and its edge types have their ends in it
pub record OwnFits (schema : Schema) (graph : GraphType) : Type 0 where
  pub vertices : list_all (λ t. nat_lt t (length schema.vertex_types)) graph.vertices ≡ true
  pub edges : list_all (λ t. nat_lt t (length schema.edge_types)) graph.edges ≡ true
  pub ends : (t : ℕ) → among graph.edges t ≡ true → t < length schema.edge_types
      → (among graph.vertices (edge_type_at schema t).from && among graph.vertices (edge_type_at schema t).to) ≡ true

-- the edge types of one declaration have the same attributes, and exchanged ends
pub record Exchanges (schema : Schema) (t u : ℕ) : Type 0 where
  pub there : u < length schema.edge_types
  pub from : (edge_type_at schema u).from ≡ (edge_type_at schema t).to
  pub to : (edge_type_at schema u).to ≡ (edge_type_at schema t).from
  pub attributes : (edge_type_at schema u).attributes ≡ (edge_type_at schema t).attributes

-- so it is of each type with the forward or the reverse type that it has
pub record PairsFit (schema : Schema) : Type 0 where
  pub forward : (t u : ℕ) → t < length schema.edge_types → (edge_type_at schema t).forward ≡ Some u → Exchanges schema t u
  pub reverse : (t u : ℕ) → t < length schema.edge_types → (edge_type_at schema t).reverse ≡ Some u → Exchanges schema t u

-- no vertex type has the name of an edge type
abbrev pub NamesApart : Schema → Type 0
NamesApart schema = (name : List ℕ) → is_some (vertex_type_of schema name) ≡ true → is_some (edge_type_of schema name) ≡ false

-- a catalog as declarations leave it
pub record IsWhole (schema : Schema) : Type 0 where
  pub pairs : PairsFit schema
  pub apart : NamesApart schema
  pub graphs : All (OwnFits schema) schema.graphs

-- ---- rows

-- a row of a type of the catalog, with a value for each attribute
pub record VertexRowFits (schema : Schema) (row : VertexRow) : Type 0 where
  pub there : row.kind < length schema.vertex_types
  pub values : row_fits (vertex_type_at schema row.kind).attributes row.attributes ≡ true

pub record EdgeRowFits (schema : Schema) (row : EdgeRow) : Type 0 where
  pub there : row.kind < length schema.edge_types
  pub values : row_fits (edge_type_at schema row.kind).attributes row.attributes ≡ true

pub record RowsFit (schema : Schema) (vertex_rows : List VertexRow) (edge_rows : List EdgeRow) : Type 0 where
  pub vertices : All (VertexRowFits schema) vertex_rows
  pub edges : All (EdgeRowFits schema) edge_rows

-- the data that a query for a graph reads from such a store are of the catalog's types
abbrev pub StoreLaw : Type 0
StoreLaw = (schema : Schema) (own : Option GraphType) (vertices : List VertexRow) (edges : List EdgeRow) (clock : Calendar)
    → PairsFit schema → ForSome own (OwnFits schema) → RowsFit schema vertices edges → StaysInRange clock → IsStoreOf schema own vertices edges clock

-- the results of reading and adding in a calendar are times
abbrev pub CalendarLaw : Type 0
CalendarLaw = (clock : Calendar) → IsCalendar clock → StaysInRange clock
