-- Indexed: a store that queries can run over, with its index: its rows have their attributes and ends, and the index is its own.
use Rattle.std.specs.Prelude.{◌≡◌, List}
use Rattle.gq_graph.specs.Catalog.{Schema}
use Rattle.gq_index.specs.declared.store.Store.{Store}
use Rattle.gq_index.specs.declared.walks.Traversal.{Traversal}
use Rattle.gq_index.specs.Rows.{HaveAttributes, HaveEnds}
use Rattle.gq_index.specs.Sights.{sight_of}
use Rattle.gq_index.specs.Walks.{adjacency}

pub record IsIndexed (schema : Schema) (store : Store) (index : List (List Traversal)) : Type 0 where
  pub attributes : HaveAttributes schema store.vertices
  pub ends : HaveEnds store.vertices store.edges.rows
  pub adjacent : index ≡ adjacency (sight_of schema store.vertices store.edges)
