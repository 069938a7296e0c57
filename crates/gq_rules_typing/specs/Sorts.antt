-- Sorts: the vertex and edge types that a query sees, with their attributes.
-- A type's number is its place in the catalog. The code looks it up in the catalog.
use Rattle.std.specs.Prelude.{ℕ, Bool, true, false, List, [], ◌∷◌, map, Option, Some, None, slice_get}
use Rattle.gq_tree.specs.Accums.{Base, INT, UINT, STRING}
use Rattle.gq_tree.specs.AccumViews.{base_of}
use Rattle.gq_tree.specs.Catalog.{Schema}
use Rattle.gq_tree.specs.Attribute.{Attribute}
use Rattle.gq_tree.specs.IdKind.{IdKind}
use Rattle.gq_tree.specs.IdKind.TheVariants as id
use Rattle.gq_tree.specs.IdShape.{IdShape}
use Rattle.gq_tree.specs.VertexType.{VertexType}
use Rattle.gq_tree.specs.EdgeType.{EdgeType}
use Rattle.gq_tree.specs.GraphType.{GraphType}
use Rattle.gq_rules_typing.specs.Statements.{Bytes}

-- fields in order, each with its name and its type
abbrev pub Fields : Type 0
Fields = List (Bytes × Base)

-- a vertex type; a shown id is its first field
pub record VertexSort : Type 0 where
  pub name : Bytes
  pub fields : Fields

-- an edge type; a reverse type has a forward type, and its ends are exchanged
pub record EdgeSort : Type 0 where
  pub name : Bytes
  pub directed : Bool
  pub from : ℕ
  pub to : ℕ
  pub forward : Option ℕ
  pub fields : Fields

-- all types of the catalog, and the numbers of those of the query's graph
pub record Sorts : Type 0 where
  pub vertices : List VertexSort
  pub edges : List EdgeSort
  pub own_vertices : List ℕ
  pub own_edges : List ℕ

abbrev pub names_of : Fields → List Bytes
names_of fields = map (λ f. f.0) fields

abbrev pub bases_of : Fields → List Base
bases_of fields = map (λ f. f.1) fields

-- the fields of a vertex type's number, of an edge type's
abbrev pub vertex_fields : Sorts → ℕ → Fields
vertex_fields sorts t = of_sort (slice_get sorts.vertices t)
  where
    of_sort : Option VertexSort → Fields
    of_sort None = []
    of_sort (Some s) = s.fields

abbrev pub edge_fields : Sorts → ℕ → Fields
edge_fields sorts t = of_sort (slice_get sorts.edges t)
  where
    of_sort : Option EdgeSort → Fields
    of_sort None = []
    of_sort (Some s) = s.fields

-- ---- from the catalog

abbrev pub attribute_fields : List Attribute → Fields
attribute_fields attributes = map (λ (a : Attribute). (a.name, base_of a.kind)) attributes

abbrev pub id_base : IdKind → Base
id_base id.Text = STRING
id_base id.Int = INT
id_base id.UInt = UINT

abbrev pub with_id : IdShape → Fields → Fields
with_id shape fields = of_shown shape.shown
  where
    of_shown : Bool → Fields
    of_shown true = (shape.name, id_base shape.kind) ∷ fields
    of_shown false = fields

abbrev pub vertex_sort : VertexType → VertexSort
vertex_sort t = record { name = t.name; fields = with_id t.id (attribute_fields t.attributes) }

abbrev pub edge_sort : EdgeType → EdgeSort
edge_sort t = record { name = t.name; directed = t.directed; from = t.from; to = t.to; forward = t.forward; fields = attribute_fields t.attributes }

-- the types that a query for a graph sees; a query for no graph sees no type
abbrev pub sorts_of : Schema → Option GraphType → Sorts
sorts_of schema graph = record {
  vertices = map vertex_sort schema.vertex_types;
  edges = map edge_sort schema.edge_types;
  own_vertices = own_of graph (λ (g : GraphType). g.vertices);
  own_edges = own_of graph (λ (g : GraphType). g.edges);
}
  where
    own_of : Option GraphType → (GraphType → List ℕ) → List ℕ
    own_of None f = []
    own_of (Some g) f = f g
