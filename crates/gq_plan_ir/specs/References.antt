-- References: the meaning of the references of a plan. A query has names in their place.
use Rattle.std.specs.Prelude.{ℕ, ◌==◌, Bool, true, false, List, [], Option, Some, None, slice_get, codes, unwrap_or}
use Rattle.gq_rules_meaning.specs.TypingStatements.{Bytes}
use Rattle.gq_rules_meaning.specs.Sorts.{Sorts}
use Rattle.gq_rules_meaning.specs.Words.{Owner, OfVertexType, OfEdgeType, OfTupleType, OfParts, Function, Makes, Method, Words, place_of, if_own}
use Rattle.gq_plan_ir.specs.declared.expr.FieldPlaces.{FieldPlaces}
use Rattle.gq_plan_ir.specs.Reference.{Reference, Place, Slot, VertexType, EdgeType, TupleType, TypeName, FieldAt, Calls, Does}

-- the references that are looked up: variables, accumulators, tuple types
abbrev pub same : Reference → Reference → Bool
same (Place n) (Place m) = n == m
same (Slot n) (Slot m) = n == m
same (TupleType n) (TupleType m) = n == m
same r q = false

-- only accumulators have a name, as a vertex prints them
abbrev pub told : List Bytes → Reference → Bytes
told names (Slot n) = unwrap_or (slice_get names n) []
told names r = []

abbrev pub is_type : Reference → Bool
is_type TypeName = true
is_type r = false

-- the entry of a type in a table; past its end the field is looked up by name
abbrev pub in_table : List (Option ℕ) → ℕ → List Bytes → Bytes → Option ℕ
in_table table t names name = of_entry (slice_get table t)
  where
    of_entry : Option (Option ℕ) → Option ℕ
    of_entry None = place_of names name
    of_entry (Some place) = place

-- a group's part is found by its name
abbrev pub place_in : FieldPlaces → Owner → List Bytes → Option ℕ
place_in c (OfVertexType t) names = in_table c.vertices t names c.name
place_in c (OfEdgeType t) names = in_table c.edges t names c.name
place_in c (OfTupleType t) names = in_table c.tuples t names c.name
place_in c OfParts names = place_of names c.name

-- for tuples and group rows `type` is a field like any other
abbrev pub field : Owner → List Bytes → Reference → Option ℕ
field owner names (FieldAt c) = place_in c owner names
field owner names TypeName = place_of names (codes "type")
field owner names r = None

-- a tuple type is looked up among those of the query
abbrev pub function : Reference → Option Function
function (Calls (Makes n fields)) = None
function (Calls f) = Some f
function r = None

abbrev pub method : Reference → Option Method
method (Does m) = Some m
method r = None

-- types are those of the graph
abbrev pub vertex_type : Sorts → Reference → Option ℕ
vertex_type sorts (VertexType t) = if_own sorts.own_vertices (Some t)
vertex_type sorts r = None

abbrev pub edge_type : Sorts → Reference → Option ℕ
edge_type sorts (EdgeType t) = if_own sorts.own_edges (Some t)
edge_type sorts r = None

-- the words of a plan that sees these types and has accumulators of these names
abbrev pub by_reference : Sorts → List Bytes → Words Reference
by_reference sorts names = record {
  same = same;
  said = told names;
  is_type = is_type;
  field = field;
  function = function;
  method = method;
  vertex_type = vertex_type sorts;
  edge_type = edge_type sorts;
}
