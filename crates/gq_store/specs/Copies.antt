-- Copies: what is true of each copy of a store.
use Rattle.std.specs.Prelude.{◌≡◌, Bool, true, List, fold}
use Rattle.gq_graph.specs.Catalog.{Schema}
use Rattle.gq_index.specs.declared.store.Store.{Store}
use Rattle.gq_index.specs.declared.kept.KeptIndex.{KeptIndex}
use Rattle.gq_index.specs.Kept.{IsKept}
use Rattle.gq_index.specs.Sights.{sight_of}
use Rattle.gq_index.specs.Steps.{after_all}
use Rattle.gq_index.specs.Walks.{adjacency}
use Rattle.gq_load_check.specs.declared.insert.Insert.{Insert}
use Rattle.gq_load.specs.Inserts.{steps_of_insert}
use Rattle.gq_load.specs.Keeping.{StoreFits}
use Rattle.gq_insert.specs.Fits.{IsSound}

-- the store after inserts, one after the other
abbrev pub store_after : Store → List Insert → Store
store_after base rows = fold (λ store row. after_all store (steps_of_insert row)) base rows

-- it is the base after its inserts, keeps to the catalog, and has an index that was built of it, or of it before some of them
pub record IsCopy (base : Store) (schema catalog : Schema) (store : Store) (index : KeptIndex) (sealed : Bool) (rows : List Insert) : Type 0 where
  pub types : catalog ≡ schema
  pub sound : IsSound catalog
  pub after : store ≡ store_after base rows
  pub fits : StoreFits catalog store
  pub kept : IsKept index catalog store
  pub ready : sealed ≡ true → index.index ≡ adjacency (sight_of catalog store.vertices store.edges)
