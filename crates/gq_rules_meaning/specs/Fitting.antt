-- Fitting: when data has the type that typing gave it. Of numbers only the form is judged: that they have 64 bits
-- holds for all values of the code.
use Rattle.std.specs.Prelude.{◌≡◌, ℕ, Bool, true, false, ◌&&◌, ◌==◌, List, [], ◌∷◌, Option, Some, slice_get, map, length, nat_lt}
use Rattle.std.specs.Option.{unwrap_or}
use Rattle.std.specs.List.{list_all}
use Rattle.gq_graph.specs.declared.types.EdgeType.{EdgeType}
use Rattle.gq_graph.specs.declared.rows.EdgeRow.{EdgeRow}
use Rattle.gq_value.specs.Val.{Val, Vals, Int, UInt, Truth, Text, Vertex, Tuple, Fraction, none, more}
use Rattle.gq_value.specs.Accums.{Base, INT, UINT, BOOL, STRING, DATETIME, VERTEX, VERTEX_OF, TUPLE, Bases, no_base, base_and, Accum, SetAccum, BagAccum, ListAccum, MapAccum, GroupByAccum, HeapAccum, Parts, no_part, part_and}
use Rattle.gq_value.specs.AccumViews.{bases}
use Rattle.gq_value.specs.Typed.{in_calendar, is_scalar}
use Rattle.gq_graph.specs.Candidates.{among, is_target}
use Rattle.gq_rules_typing.specs.Holds.{Holds, HoldsEach}
use Rattle.gq_rules_typing.specs.Sorts.{VertexSort, EdgeSort, bases_of}
use Rattle.gq_rules_typing.specs.Words.{Makes}
use Rattle.gq_rules_typing.specs.Judging.{Typed, Of, Average, Whole, GroupRow, AliasOf, EdgeOf, SetOf, MemberOf}
use Rattle.gq_rules_typing.specs.Types.{same_bases, vertex_base}
use Rattle.gq_rules_typing.specs.FieldTypes.{tuple_fields}
use Rattle.gq_rules_meaning.specs.Answers.{Answer, Gives, Faults, Stuck}
use Rattle.gq_rules_meaning.specs.Calendars.{StaysInRange}
use Rattle.gq_rules_meaning.specs.Graphs.{Graph, vertex_count}
use Rattle.gq_rules_meaning.specs.Meanings.{Meant, Is, IsAverage, IsContent, IsRow, IsEdge, IsSet, IsMember}
use Rattle.gq_rules_meaning.specs.Expressions.{World, setting}

-- an answer that isn't stuck, and if it gives something, that satisfies P
abbrev pub Safe : {F A : Type 0} → (A → Type 0) → Answer F A → Type 0
Safe P (Gives a) = P a
Safe P (Faults e) = Unit {0}
Safe P Stuck = ⊥

-- ---- values

-- an existing vertex of one of these types, and of the query's graph
abbrev pub is_vertex_of : Graph → List ℕ → ℕ → Bool
is_vertex_of g types v = is_target g.sight.kinds types v && is_target g.sight.kinds g.sorts.own_vertices v

abbrev mutual
  -- a value of a type: vertices exist, and a tuple type is one of the query
  pub is_value : {N : Type 0} → World N → Base → Val → Bool
  is_value world INT (Int x) = true
  is_value world UINT (UInt n) = true
  is_value world BOOL (Truth b) = true
  is_value world STRING (Text s) = true
  is_value world DATETIME (Int x) = in_calendar x
  is_value world VERTEX (Vertex v) = is_target world.graph.sight.kinds world.graph.sorts.own_vertices v
  is_value world (VERTEX_OF t) (Vertex v) = is_vertex_of world.graph (t ∷ []) v
  is_value world (TUPLE n bs) (Tuple vs) = are_values world bs vs && same_bases bs (bases (bases_of (tuple_fields (setting world) n)))
  is_value world _ _ = false

  pub are_values : {N : Type 0} → World N → Bases → Vals → Bool
  are_values world no_base none = true
  are_values world (base_and b bs) (more v vs) = is_value world b v && are_values world bs vs
  are_values world _ _ = false

-- one value of each type, in order
abbrev pub row_is : {N : Type 0} → World N → List Base → List Val → Bool
row_is world [] [] = true
row_is world (b ∷ bs) (v ∷ vs) = is_value world b v && row_is world bs vs
row_is world _ _ = false

-- ---- contents

abbrev mutual
  -- all values in a content are of the types of its kind
  pub HoldsValues : {N : Type 0} → World N → (k : Accum) → Holds k → Type 0
  HoldsValues world (SetAccum b) c = list_all (is_value world b) c ≡ true
  HoldsValues world (BagAccum b) c = list_all (is_value world b) c ≡ true
  HoldsValues world (ListAccum b) c = list_all (is_value world b) c ≡ true
  HoldsValues world (HeapAccum b n by) c = list_all (is_value world b) c ≡ true
  HoldsValues world (MapAccum b k) c = (list_all (row_is world (b ∷ [])) c.0 ≡ true) × ((q : List Val) → HoldsValues world k (c.1 q))
  HoldsValues world (GroupByAccum keys ps) c = (list_all (row_is world (bases_of keys)) c.0 ≡ true) × ((q : List Val) → HoldValues world ps (c.1 q))
  HoldsValues world k c = Unit {0}

  pub HoldValues : {N : Type 0} → World N → (ps : Parts) → HoldsEach ps → Type 0
  HoldValues world no_part cs = Unit {0}
  HoldValues world (part_and name k ps) cs = HoldsValues world k cs.0 × HoldValues world ps cs.1

-- ---- the graph

-- an edge row of a type, which may be the reverse type of the row's type
abbrev pub is_row_of : Graph → List ℕ → ℕ → ℕ → Bool
is_row_of g types r t = among types t && of_row (slice_get g.sight.edges r) (slice_get g.sorts.edges t)
  where
    of_row : Option EdgeRow → Option EdgeSort → Bool
    of_row (Some row) (Some sort) = row.kind == unwrap_or sort.forward t
    of_row _ _ = false

-- how an edge type is walked
abbrev pub Ends : Type 0
Ends = Bool × ℕ × ℕ × Option ℕ

abbrev pub ends_of_type : EdgeType → Ends
ends_of_type t = (t.directed, t.from, t.to, t.forward)

abbrev pub ends_of_sort : EdgeSort → Ends
ends_of_sort s = (s.directed, s.from, s.to, s.forward)

-- a vertex has the attributes of its type
pub record VertexFits {N : Type 0} (world : World N) (v t : ℕ) : Type 0 where
  pub sort : VertexSort
  pub values : List Val
  pub is_sort : slice_get world.graph.sorts.vertices t ≡ Some sort
  pub are_values : slice_get world.graph.vertex_values v ≡ Some values
  pub fit : row_is world (bases_of sort.fields) values ≡ true

-- an edge row has the attributes of a type under which it can be walked
pub record EdgeFits {N : Type 0} (world : World N) (r t : ℕ) : Type 0 where
  pub sort : EdgeSort
  pub values : List Val
  pub is_sort : slice_get world.graph.sorts.edges t ≡ Some sort
  pub are_values : slice_get world.graph.edge_values r ≡ Some values
  pub fit : row_is world (bases_of sort.fields) values ≡ true

-- the store's columns agree on each vertex and type, and a graph's edge types have their ends in it
pub record GraphFits (g : Graph) : Type 0 where
  pub types : map ends_of_type g.sight.types ≡ map ends_of_sort g.sorts.edges
  pub ids : length g.ids ≡ vertex_count g
  pub values : length g.vertex_values ≡ vertex_count g
  pub vertices : list_all (λ t. nat_lt t (length g.sorts.vertices)) g.sorts.own_vertices ≡ true
  pub edges : list_all (λ t. nat_lt t (length g.sorts.edges)) g.sorts.own_edges ≡ true
  pub ends : (t : ℕ) (sort : EdgeSort) → among g.sorts.own_edges t ≡ true → slice_get g.sorts.edges t ≡ Some sort → (among g.sorts.own_vertices sort.from && among g.sorts.own_vertices sort.to) ≡ true

-- each row of the store has its type's attributes, and times lie in the calendar
pub record WorldFits {N : Type 0} (world : World N) : Type 0 where
  pub graph : GraphFits world.graph
  pub vertices : (v t : ℕ) → slice_get world.graph.sight.kinds v ≡ Some t → VertexFits world v t
  pub edges : (r t : ℕ) (types : List ℕ) → is_row_of world.graph types r t ≡ true → EdgeFits world r t
  pub times : StaysInRange world.calendar
  -- only tuple types make tuples
  pub functions : (f : N) (n : ℕ) (fields : List Base) → world.words.function f ≡ Some (Makes n fields) → ⊥

-- ---- expressions

-- the meaning of an expression has its type
abbrev pub Suits : {N : Type 0} → World N → Typed → Meant → Type 0
Suits world (Of b) (Is c v) = (c ≡ b) × (is_value world b v ≡ true)
Suits world Average (IsAverage (Fraction s n)) = Unit {0}
Suits world (Whole k) (IsContent j c) = (j ≡ k) × (is_scalar j ≡ false) × HoldsValues world j c
Suits world (GroupRow ps) (IsRow qs cs) = (qs ≡ ps) × HoldValues world qs cs
Suits world (AliasOf types) (Is c (Vertex v)) = (c ≡ vertex_base types) × (is_vertex_of world.graph types v ≡ true)
Suits world (EdgeOf types) (IsEdge r t) = is_row_of world.graph types r t ≡ true
Suits world (SetOf types) (IsSet vs) = list_all (is_vertex_of world.graph types) vs ≡ true
Suits world (MemberOf types) (IsMember vs c v) = (c ≡ vertex_base types) × (is_vertex_of world.graph types v ≡ true)
Suits world _ _ = ⊥
