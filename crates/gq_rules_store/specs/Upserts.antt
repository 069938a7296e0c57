-- Upserts: when upserts are of rows of their types, and the store that they leave.
use Rattle.std.specs.Prelude.{◌≡◌, ◌<◌, true, List, [], ◌∷◌, length}
use Rattle.gq_graph.specs.Catalog.{Schema}
use Rattle.gq_index.specs.declared.store.Store.{Store}
use Rattle.gq_load_check.specs.Fits.{HasGrown}
use Rattle.gq_load_check.specs.Targets.{edge_type_at}
use Rattle.gq_insert.specs.Fits.{row_fits}
use Rattle.gq_index.specs.Steps.{Step, Vertex, End, Edge, Begun}
use Rattle.gq_load.specs.Keeping.{no_rows}
use Rattle.gq_rules_store.specs.Stores.{VertexRowFits, RowsFit}

-- an upserted row is of a type of the catalog, with a value for each attribute
abbrev pub StepFits : Schema → Step → Type 0
StepFits schema (Vertex row) = VertexRowFits schema row
StepFits schema (End row) = VertexRowFits schema row
StepFits schema (Edge naming from to attributes) = (naming.kind < length schema.edge_types) × (row_fits (edge_type_at schema naming.kind).attributes attributes ≡ true)

abbrev pub StepsFit : Schema → List Step → Type 0
StepsFit schema [] = Unit {0}
StepsFit schema (step ∷ steps) = StepFits schema step × StepsFit schema steps

abbrev pub StoreRowsFit : Schema → Store → Type 0
StoreRowsFit schema store = RowsFit schema store.vertices store.edges.rows

-- a store without rows is one of every catalog
abbrev pub EmptyLaw : Type 0
EmptyLaw = (schema : Schema) → StoreRowsFit schema no_rows

-- after any number of upserts of such rows, the store is one of such rows
abbrev pub UpsertLaw : Type 0
UpsertLaw = (schema : Schema) (before later : Store) (steps : List Step) → StepsFit schema steps → Begun before steps later → StoreRowsFit schema before → StoreRowsFit schema later

-- and the store stays one of each catalog that grows out of its own
abbrev pub RowGrowthLaw : Type 0
RowGrowthLaw = (before after : Schema) (store : Store) → HasGrown before after → StoreRowsFit before store → StoreRowsFit after store
