-- Growing: which types a graph sees, and what is preserved of a query's typing while its catalog grows.
use Rattle.std.specs.Prelude.{◌≡◌, ℕ, ◌<◌, true, length, nat_lt, Option, Ok, slice_get}
use Rattle.std.specs.List.{list_all}
use Rattle.gq_graph.specs.Catalog.{Schema}
use Rattle.gq_graph.specs.declared.types.GraphType.{GraphType}
use Rattle.gq_load_check.specs.Fits.{HasGrown}
use Rattle.gq_rules_typing.specs.Statements.{Bytes, Query}
use Rattle.gq_rules_typing.specs.Sorts.{Sorts, sorts_of}
use Rattle.gq_rules_typing.specs.Words.{by_name}
use Rattle.gq_rules_typing.specs.Scopes.{Scope}
use Rattle.gq_rules_typing.specs.QueryTypes.{typing_query}

-- the types that a query for a graph sees as its own are types of the catalog
pub record SeesTypes (schema : Schema) (own : Option GraphType) : Type 0 where
  pub vertices : list_all (λ t. nat_lt t (length schema.vertex_types)) (sorts_of schema own).own_vertices ≡ true
  pub edges : list_all (λ t. nat_lt t (length schema.edge_types)) (sorts_of schema own).own_edges ≡ true

-- the same names and tuple types, over other types
abbrev pub over : Sorts → Scope Bytes → Scope Bytes
over sorts s = record s { setting = record { words = by_name sorts; sorts = sorts; tuples = s.setting.tuples } }

-- a query that is typed over a catalog is typed over each that has grown out of it, with the same names and types: its
-- graph is the same, and the names and attributes of later types change nothing
abbrev pub GrowthLaw : Type 0
GrowthLaw = (before after : Schema) (own : Option GraphType) → HasGrown before after → SeesTypes before own
    → (q : Query Bytes) (t : Scope Bytes) → typing_query (sorts_of before own) q ≡ Ok t → typing_query (sorts_of after own) q ≡ Ok (over (sorts_of after own) t)

-- the graph of a number stays that graph
abbrev pub GraphLaw : Type 0
GraphLaw = (before after : Schema) (n : ℕ) → HasGrown before after → n < length before.graphs → slice_get after.graphs n ≡ slice_get before.graphs n
