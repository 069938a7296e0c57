-- A statement is denied if its declaration is refused.
use Rattle.std.proofs.Common.{◌≡◌, ◌≢◌, ℕ, Bool, List, ◌++◌, length, map, Option, Some, ap, sym, ◌∙◌}
use Rattle.gq_graph.specs.declared.types.Attribute.{Attribute}
use Rattle.gq_graph.specs.declared.types.IdShape.{IdShape}
use Rattle.gq_graph.specs.Catalog.{Schema, with_vertex_type, with_edge_types, edge_types_of, end_of, with_graph}
use Rattle.gq_schema.specs.declared.fault.SchemaFault.{SchemaFault}
use Rattle.gq_schema.specs.declared.fault.SchemaFault.TheVariants as fault
use Rattle.gq_schema.specs.Refusals.{vertex_refusal, edge_refusal, graph_refusal}
use Rattle.gq_schema.specs.Members.{graph_with}
use Rattle.gq_diagnostics.specs.declared.refusal.StatementFault.{StatementFault}
use Rattle.gq_diagnostics.specs.Answers.{Denies}
use Rattle.gq_tree.specs.declared.schema.VertexTree.{VertexTree}
use Rattle.gq_tree.specs.declared.schema.EndsTree.{EndsTree}
use Rattle.gq_tree.specs.declared.schema.GraphTree.{GraphTree}
use Rattle.gq_ddl.specs.Attributes.{attribute_of, discriminator_of, id_of}
use Rattle.gq_ddl.specs.Declarations.{unless_refused, vertex_created, ends_created, graph_created, members_of}

-- the statement fault that a declaration's fault becomes denies the statement
abbrev pub Becomes : SchemaFault → StatementFault → Type 0
Becomes f statement = (due : Option SchemaFault) (schema old new : Schema) → (f ≢ fault.OutOfMemory → due ≡ Some f) → new ≡ old → Denies (unless_refused due schema) old new statement

module _ (schema new : Schema) (f : SchemaFault) (statement : StatementFault) (becomes : Becomes f statement) (same : new ≡ schema) where
  pub vertex_denied : (tree : VertexTree) (name : List ℕ) (id : IdShape) (attributes : List Attribute)
      → name ≡ tree.name → id ≡ id_of tree → attributes ≡ map attribute_of tree.attributes
      → (f ≢ fault.OutOfMemory → vertex_refusal schema name id attributes ≡ Some f) → Denies (vertex_created schema tree) schema new statement
  vertex_denied tree name id attributes a b c judged =
      let all = map attribute_of tree.attributes in
      let e : vertex_refusal schema name id attributes ≡ vertex_refusal schema tree.name (id_of tree) all =
      ap (λ n. vertex_refusal schema n id attributes) a ∙ ap (λ i. vertex_refusal schema tree.name i attributes) b
      ∙ ap (λ l. vertex_refusal schema tree.name (id_of tree) l) c in
      becomes (vertex_refusal schema tree.name (id_of tree) all) (with_vertex_type schema tree.name (id_of tree) all) schema new (λ ne. sym e ∙ judged ne) same

  pub ends_denied : (directed : Bool) (ends : EndsTree) (reverse : Option (List ℕ)) (name from to : List ℕ) (discriminators attributes : List Attribute)
      → name ≡ ends.name → from ≡ ends.from → to ≡ ends.to → discriminators ≡ map discriminator_of ends.discriminators → attributes ≡ map attribute_of ends.attributes
      → (f ≢ fault.OutOfMemory → edge_refusal schema name from to reverse (discriminators ++ attributes) ≡ Some f)
      → Denies (ends_created schema directed ends reverse) schema new statement
  ends_denied directed ends reverse name from to discriminators attributes a b c d g judged =
      let key = map discriminator_of ends.discriminators in
      let all = map attribute_of ends.attributes in
      let e : edge_refusal schema name from to reverse (discriminators ++ attributes) ≡ edge_refusal schema ends.name ends.from ends.to reverse (key ++ all) =
      ap (λ n. edge_refusal schema n from to reverse (discriminators ++ attributes)) a
      ∙ ap (λ n. edge_refusal schema ends.name n to reverse (discriminators ++ attributes)) b
      ∙ ap (λ n. edge_refusal schema ends.name ends.from n reverse (discriminators ++ attributes)) c
      ∙ ap (λ l. edge_refusal schema ends.name ends.from ends.to reverse (l ++ attributes)) d
      ∙ ap (λ l. edge_refusal schema ends.name ends.from ends.to reverse (key ++ l)) g in
      becomes (edge_refusal schema ends.name ends.from ends.to reverse (key ++ all))
      (with_edge_types schema (edge_types_of (length schema.edge_types) ends.name directed (end_of schema ends.from) (end_of schema ends.to) reverse (length key) (key ++ all)))
      schema new (λ ne. sym e ∙ judged ne) same

  pub graph_denied : (tree : GraphTree) (name : List ℕ) (members : Option (List (List ℕ))) → name ≡ tree.name → members ≡ members_of tree.members
      → (f ≢ fault.OutOfMemory → graph_refusal schema name members ≡ Some f) → Denies (graph_created schema tree) schema new statement
  graph_denied tree name members a b judged =
      let e : graph_refusal schema name members ≡ graph_refusal schema tree.name (members_of tree.members) =
      ap (λ n. graph_refusal schema n members) a ∙ ap (graph_refusal schema tree.name) b in
      becomes (graph_refusal schema tree.name (members_of tree.members)) (with_graph schema (graph_with schema tree.name (members_of tree.members))) schema new (λ ne. sym e ∙ judged ne) same
