-- Catalogs: declarations that aren't refused leave a catalog whole.
use Rattle.std.specs.Prelude.{◌≡◌, ℕ, ◌++◌, Bool, List, [], length, Option, None, slice_get}
use Rattle.std.specs.Option.{ForSome}
use Rattle.gq_graph.specs.Catalog.{Schema, with_vertex_type, with_edge_types, edge_types_of, end_of, with_graph}
use Rattle.gq_graph.specs.declared.types.Attribute.{Attribute}
use Rattle.gq_graph.specs.declared.types.GraphType.{GraphType}
use Rattle.gq_graph.specs.declared.types.IdShape.{IdShape}
use Rattle.gq_schema.specs.Members.{graph_with}
use Rattle.gq_schema.specs.Refusals.{vertex_refusal, edge_refusal, graph_refusal}
use Rattle.gq_insert.specs.Fits.{IsSound}
use Rattle.gq_rules_safety.specs.Growing.{SeesTypes}
use Rattle.gq_rules_store.specs.Stores.{OwnFits, IsWhole}

abbrev pub NoTypesLaw : Type 0
NoTypesLaw = IsWhole (record { vertex_types = []; edge_types = []; graphs = [] })

abbrev pub VertexTypeLaw : Type 0
VertexTypeLaw = (schema : Schema) (name : List ℕ) (id : IdShape) (attributes : List Attribute) → vertex_refusal schema name id attributes ≡ None → IsWhole schema → IsWhole (with_vertex_type schema name id attributes)

abbrev pub EdgeTypeLaw : Type 0
EdgeTypeLaw = (schema : Schema) (name : List ℕ) (directed : Bool) (from to : List ℕ) (reverse : Option (List ℕ)) (key rest : List Attribute) → edge_refusal schema name from to reverse (key ++ rest) ≡ None → IsWhole schema
    → IsWhole (with_edge_types schema (edge_types_of (length schema.edge_types) name directed (end_of schema from) (end_of schema to) reverse (length key) (key ++ rest)))

abbrev pub GraphTypeLaw : Type 0
GraphTypeLaw = (schema : Schema) (name : List ℕ) (members : Option (List (List ℕ))) → graph_refusal schema name members ≡ None → IsSound schema → IsWhole schema → IsWhole (with_graph schema (graph_with schema name members))

-- a graph of a whole catalog, or none, sees only types of the catalog
abbrev pub SeesLaw : Type 0
SeesLaw = (schema : Schema) (n : ℕ) (own : Option GraphType) → IsWhole schema → slice_get schema.graphs n ≡ own → SeesTypes schema own × ForSome own (OwnFits schema)
