-- Entries: inserts as the copies take them in.
use Rattle.std.specs.Prelude.{List, [], ◌∷◌, Option, Some, None}
use Rattle.gq_graph.specs.Catalog.{Schema}
use Rattle.gq_load_check.specs.declared.insert.Insert.{Insert}
use Rattle.gq_insert.specs.Fits.{InsertFits}
use Rattle.gq_store.specs.Histories.{EndsWith}

-- an insert is one of the catalog, and the history ends with it
pub record IsEntry (schema : Schema) (row : Insert) (after : List Insert) : Type 0 where
  pub ends : EndsWith after row
  pub fits : InsertFits schema row

-- the inserts among what copies take in. The rest are seals
abbrev pub rows_in : List (Option Insert) → List Insert
rows_in [] = []
rows_in (None ∷ changes) = rows_in changes
rows_in (Some row ∷ changes) = row ∷ rows_in changes
