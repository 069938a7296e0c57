-- Declarations: the effect of CREATE VERTEX, CREATE EDGE and CREATE GRAPH on a catalog, or why they are refused.
use Rattle.std.specs.Prelude.{ℕ, Bool, true, false, List, ◌++◌, map, length, Option, Some, None, option_and_then, Result, Ok, Err}
use Rattle.gq_graph.specs.declared.types.Attribute.{Attribute}
use Rattle.gq_graph.specs.Catalog.{Schema, with_vertex_type, with_edge_types, edge_types_of, end_of, with_graph}
use Rattle.gq_schema.specs.declared.fault.SchemaFault.{SchemaFault}
use Rattle.gq_schema.specs.declared.fault.SchemaFault.TheVariants as fault
use Rattle.gq_schema.specs.Refusals.{vertex_refusal, edge_refusal, graph_refusal}
use Rattle.gq_schema.specs.Members.{graph_with}
use Rattle.gq_diagnostics.specs.declared.refusal.Refusal.{Refusal}
use Rattle.gq_diagnostics.specs.declared.refusal.Refusal.TheVariants as refusal
use Rattle.gq_tree.specs.declared.schema.VertexTree.{VertexTree}
use Rattle.gq_tree.specs.declared.schema.EndsTree.{EndsTree}
use Rattle.gq_tree.specs.declared.schema.EdgeTree.{EdgeTree}
use Rattle.gq_tree.specs.declared.schema.EdgeTree.TheVariants as edge
use Rattle.gq_tree.specs.declared.schema.MembersTree.{MembersTree}
use Rattle.gq_tree.specs.declared.schema.MembersTree.TheVariants as members
use Rattle.gq_tree.specs.declared.schema.GraphTree.{GraphTree}
use Rattle.gq_ddl.specs.Attributes.{attribute_of, discriminator_of, id_of}

-- the refusal of a statement, given that of its declaration; OutOfMemory isn't a refusal
abbrev pub refusal_of : SchemaFault → Option Refusal
refusal_of (fault.NameTaken x) = Some (refusal.NameTaken x)
refusal_of (fault.NoSuchType x) = Some (refusal.NoSuchType x)
refusal_of (fault.AttributeTwice x) = Some (refusal.AttributeTwice x)
refusal_of (fault.GraphExists x) = Some (refusal.GraphExists x)
refusal_of fault.TooMany = Some refusal.TooMany
refusal_of fault.OutOfMemory = None
refusal_of (fault.BadDefault x) = Some (refusal.BadDefault x)

-- the refusal if there is one, or else the catalog
abbrev pub refused_or : Option Refusal → Schema → Result Schema Refusal
refused_or None schema = Ok schema
refused_or (Some due) schema = Err due

-- the catalog, unless a rule fails
abbrev pub unless_refused : Option SchemaFault → Schema → Result Schema Refusal
unless_refused due schema = refused_or (option_and_then refusal_of due) schema

-- CREATE VERTEX
abbrev pub vertex_created : Schema → VertexTree → Result Schema Refusal
vertex_created schema tree =
    unless_refused
    (vertex_refusal schema tree.name (id_of tree) (map attribute_of tree.attributes))
    (with_vertex_type schema tree.name (id_of tree) (map attribute_of tree.attributes))

-- an edge type with discriminators, which become its first attributes, and with its reverse type, if it has one
abbrev pub edge_with : Schema → Bool → EndsTree → Option (List ℕ) → List Attribute → List Attribute → Result Schema Refusal
edge_with schema directed ends reverse discriminators attributes =
    unless_refused
    (edge_refusal schema ends.name ends.from ends.to reverse (discriminators ++ attributes))
    (with_edge_types schema
    (edge_types_of (length schema.edge_types) ends.name directed (end_of schema ends.from) (end_of schema ends.to) reverse
    (length discriminators) (discriminators ++ attributes)))

abbrev pub ends_created : Schema → Bool → EndsTree → Option (List ℕ) → Result Schema Refusal
ends_created schema directed ends reverse =
    edge_with schema directed ends reverse (map discriminator_of ends.discriminators) (map attribute_of ends.attributes)

-- CREATE DIRECTED EDGE and CREATE UNDIRECTED EDGE
abbrev pub edge_created : Schema → EdgeTree → Result Schema Refusal
edge_created schema (edge.Directed ends reverse) = ends_created schema true ends reverse
edge_created schema (edge.Undirected ends) = ends_created schema false ends None

-- the names of a graph's members, or none for all types
abbrev pub members_of : MembersTree → Option (List (List ℕ))
members_of members.All = None
members_of (members.Named names) = Some names

-- CREATE GRAPH
abbrev pub graph_created : Schema → GraphTree → Result Schema Refusal
graph_created schema tree =
    unless_refused
    (graph_refusal schema tree.name (members_of tree.members))
    (with_graph schema (graph_with schema tree.name (members_of tree.members)))
