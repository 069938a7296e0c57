-- Graphs: the data that a query reads from catalog and store. A vertex's number and an edge's number are their places.
-- The code looks up tables; here the store's columns are lists.
use Rattle.std.specs.Prelude.{ℕ, ◌+◌, ◌*◌, ◌-◌, ◌==◌, if◌then◌else◌, ℤ, pos, neg_ℤ, List, [], ◌∷◌, map, filter, length, Option, Some, None, slice_get}
use Rattle.std.specs.List.{range_with_len}
use Rattle.gq_value.specs.Val.{Val, Int, UInt, Text}
use Rattle.gq_value.specs.Views.{val}
use Rattle.gq_graph.specs.Catalog.{Schema}
use Rattle.gq_graph.specs.Candidates.{Sight, is_target}
use Rattle.gq_graph.specs.declared.types.GraphType.{GraphType}
use Rattle.gq_graph.specs.declared.types.IdKind.{IdKind}
use Rattle.gq_graph.specs.declared.types.IdKind.TheVariants as id
use Rattle.gq_graph.specs.declared.types.VertexType.{VertexType}
use Rattle.gq_graph.specs.declared.rows.VertexRow.{VertexRow}
use Rattle.gq_graph.specs.declared.rows.EdgeRow.{EdgeRow}
use Rattle.gq_rules_typing.specs.Statements.{Bytes}
use Rattle.gq_rules_typing.specs.Sorts.{Sorts, VertexSort, sorts_of}

-- the types, the rows that blocks walk, each vertex's id and attributes, each edge's attributes; a shown id is the
-- first attribute
pub record Graph : Type 0 where
  pub sorts : Sorts
  pub sight : Sight
  pub ids : List Bytes
  pub vertex_values : List (List Val)
  pub edge_values : List (List Val)

abbrev pub vertex_count : Graph → ℕ
vertex_count g = length g.sight.kinds

-- all vertices of these types, by number
abbrev pub vertices_of : Graph → List ℕ → List ℕ
vertices_of g types = filter (is_target g.sight.kinds types) (range_with_len 0 (vertex_count g))

-- the sort of a vertex
abbrev pub sort_of_vertex : Graph → ℕ → Option VertexSort
sort_of_vertex g v = of_kind (slice_get g.sight.kinds v)
  where
    of_kind : Option ℕ → Option VertexSort
    of_kind None = None
    of_kind (Some t) = slice_get g.sorts.vertices t

-- ---- from catalog and store

-- the number that decimal digits denote, after a number
abbrev pub number_in : List ℕ → ℕ → ℕ
number_in [] n = n
number_in (c ∷ cs) n = number_in cs (10 * n + (c - 48))

-- with a minus sign, or without one
abbrev pub integer_in : List ℕ → ℤ
integer_in [] = pos 0
integer_in (c ∷ cs) = if c == 45 then neg_ℤ (pos (number_in cs 0)) else pos (number_in (c ∷ cs) 0)

-- the value of an id, which is kept as its text
abbrev pub id_value : IdKind → Bytes → Val
id_value id.Text s = Text s
id_value id.Int s = Int (integer_in s)
id_value id.UInt s = UInt (number_in s 0)

abbrev pub with_shown : VertexRow → Option VertexType → List Val → List Val
with_shown r None vs = vs
with_shown r (Some t) vs = if t.id.shown then id_value t.id.kind r.id ∷ vs else vs

-- the values of a vertex: a row has only those of the declared attributes, and a shown id comes before them
abbrev pub values_in : Schema → VertexRow → List Val
values_in schema r = with_shown r (slice_get schema.vertex_types r.kind) (map val r.attributes)

-- the data that a query for a graph reads
abbrev pub graph_of : Schema → Option GraphType → List VertexRow → List EdgeRow → Graph
graph_of schema own vertices edges = record {
  sorts = sorts_of schema own;
  sight = record { kinds = map (λ (r : VertexRow). r.kind) vertices; types = schema.edge_types; edges = edges };
  ids = map (λ (r : VertexRow). r.id) vertices;
  vertex_values = map (values_in schema) vertices;
  edge_values = map (λ (r : EdgeRow). map val r.attributes) edges;
}
