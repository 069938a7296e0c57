-- Fits: when a catalog's types are sound, and when an insert fits a catalog.
use Rattle.std.specs.Prelude.{ℕ, ◌<◌, ◌≤◌, ◌≡◌, ◌≢◌, Bool, true, false, ◌&&◌, List, [], ◌∷◌, length, All, None}
use Rattle.std.specs.Option.{option_map_or}
use Rattle.gq_graph.specs.declared.types.Attribute.{Attribute}
use Rattle.gq_graph.specs.declared.types.EdgeType.{EdgeType}
use Rattle.gq_graph.specs.declared.types.VertexType.{VertexType}
use Rattle.gq_value.specs.declared.value.Value.{Value}
use Rattle.gq_graph.specs.Catalog.{Schema}
use Rattle.gq_graph.specs.Defaults.{Sort, INT, UINT, BOOL, STRING, DATETIME, OTHER, sort_of, is_time}
use Rattle.gq_value.specs.Val.{Val, Int, UInt, Truth, Text}
use Rattle.gq_value.specs.Views.{val}
use Rattle.gq_index.specs.Rows.{IsId}
use Rattle.gq_load_check.specs.declared.insert.Endpoint.{Endpoint}
use Rattle.gq_load_check.specs.declared.insert.Insert.{Insert}
use Rattle.gq_load_check.specs.declared.insert.Insert.TheVariants as insert
use Rattle.gq_load_check.specs.Targets.{vertex_type_at, edge_type_at}

-- ---- values

-- a value of an attribute's type. The code's numbers always fit in 64 bits
abbrev pub is_value : Sort → Val → Bool
is_value INT (Int z) = true
is_value UINT (UInt n) = true
is_value BOOL (Truth b) = true
is_value STRING (Text s) = true
is_value DATETIME (Int z) = is_time z
is_value sort v = false

-- a value for each attribute
abbrev pub row_fits : List Attribute → List Value → Bool
row_fits [] [] = true
row_fits (a ∷ attributes) (v ∷ row) = is_value (sort_of a.kind) (val v) && row_fits attributes row
row_fits _ _ = false

-- ---- catalogs

-- an attribute's default, if it has one, is a value of its type
abbrev pub has_own_default : Attribute → Bool
has_own_default a = option_map_or (λ v. is_value (sort_of a.kind) (val v)) a.default true

-- an attribute has a plain type, and its default, if it has one, is a value of it
abbrev pub AttributeFits : Attribute → Type 0
AttributeFits a = (sort_of a.kind ≢ OTHER) × (has_own_default a ≡ true)

abbrev pub VertexTypeFits : VertexType → Type 0
VertexTypeFits t = All AttributeFits t.attributes

-- an edge type's ends are vertex types, and its discriminators are some of its attributes
pub record EdgeTypeFits (schema : Schema) (t : EdgeType) : Type 0 where
  pub from : t.from < length schema.vertex_types
  pub to : t.to < length schema.vertex_types
  pub key : t.discriminators ≤ length t.attributes
  pub attributes : All AttributeFits t.attributes

-- all types are sound, as declarations leave them
pub record IsSound (schema : Schema) : Type 0 where
  pub vertex_types : All VertexTypeFits schema.vertex_types
  pub edge_types : All (EdgeTypeFits schema) schema.edge_types

-- ---- inserts

-- an end has this vertex type
pub record EndFits (schema : Schema) (n : ℕ) (end : Endpoint) : Type 0 where
  pub kind : end.kind ≡ n
  pub there : n < length schema.vertex_types
  pub id : IsId (vertex_type_at schema n).id.kind end.id
  pub missing : row_fits (vertex_type_at schema n).attributes end.missing ≡ true

-- both ends of an edge fit the edge's type
pub record EndsFit (schema : Schema) (n : ℕ) (ends : Endpoint × Endpoint) : Type 0 where
  pub from : EndFits schema (edge_type_at schema n).from ends.0
  pub to : EndFits schema (edge_type_at schema n).to ends.1

pub record VertexFits (schema : Schema) (n : ℕ) (text : List ℕ) (values : List Value) : Type 0 where
  pub there : n < length schema.vertex_types
  pub id : IsId (vertex_type_at schema n).id.kind text
  pub row : row_fits (vertex_type_at schema n).attributes values ≡ true

pub record EdgeFits (schema : Schema) (n : ℕ) (flag : Bool) (count : ℕ) (first second : Endpoint) (values : List Value) : Type 0 where
  pub there : n < length schema.edge_types
  pub own : (edge_type_at schema n).forward ≡ None
  pub directed : flag ≡ (edge_type_at schema n).directed
  pub key : count ≡ (edge_type_at schema n).discriminators
  pub ends : EndsFit schema n (first, second)
  pub row : row_fits (edge_type_at schema n).attributes values ≡ true

-- an insert's type number, flags, ids and rows are those of its type
abbrev pub InsertFits : Schema → Insert → Type 0
InsertFits schema (insert.Vertex n text values) = VertexFits schema n text values
InsertFits schema (insert.Edge n flag count first second values) = EdgeFits schema n flag count first second values
